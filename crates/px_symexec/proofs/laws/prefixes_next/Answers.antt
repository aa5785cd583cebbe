use Rattle.px_symexec.proofs.PrefixLemmas.{prefixes_next}
use Rattle.px_symexec.proofs.laws.prefixes_next.Goals as goal

pub returns : goal.returns
returns c = prefixes_next
