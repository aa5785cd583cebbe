use Rattle.px_callgraph.proofs.FallLemmas.{acts_lessen}
use Rattle.px_callgraph.proofs.laws.acts_lessen.Goals as goal

pub returns : goal.returns
returns c = acts_lessen
