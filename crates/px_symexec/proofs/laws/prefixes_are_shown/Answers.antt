use Rattle.px_symexec.proofs.ShownLemmas.{prefixes_are_shown}
use Rattle.px_symexec.proofs.laws.prefixes_are_shown.Goals as goal

pub returns : goal.returns
returns c = prefixes_are_shown
