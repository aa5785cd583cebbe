use Rattle.px_callgraph.proofs.LaterLemmas.{constraints_grow}
use Rattle.px_callgraph.proofs.laws.constraints_grow.Goals as goal

pub returns : goal.returns
returns c = constraints_grow
