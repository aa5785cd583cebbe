use Rattle.px_callgraph.proofs.ConstraintLemmas.{constraints_sorted}
use Rattle.px_callgraph.proofs.laws.constraints_are_sorted.Goals as goal

pub returns : goal.returns
returns c = constraints_sorted
