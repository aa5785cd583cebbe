use Rattle.px_callgraph.proofs.ReachedLemmas.{reached_keep}
use Rattle.px_callgraph.proofs.laws.reached_keep_states.Goals as goal

pub returns : goal.returns
returns c = reached_keep
