use Rattle.px_callgraph.proofs.AskLemmas.{reached_askable}
use Rattle.px_callgraph.proofs.laws.reached_are_askable.Goals as goal

pub returns : goal.returns
returns c = reached_askable
