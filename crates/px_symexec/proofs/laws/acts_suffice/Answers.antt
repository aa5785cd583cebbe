use Rattle.px_symexec.proofs.PrefixLemmas.{acts_suffice}
use Rattle.px_symexec.proofs.laws.acts_suffice.Goals as goal

pub returns : goal.returns
returns c = acts_suffice
