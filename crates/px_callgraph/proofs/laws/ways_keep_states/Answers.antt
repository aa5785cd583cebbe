use Rattle.px_callgraph.proofs.WayLemmas.{ways_keep}
use Rattle.px_callgraph.proofs.laws.ways_keep_states.Goals as goal

pub returns : goal.returns
returns c = ways_keep
