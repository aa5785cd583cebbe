use Rattle.px_solver.proofs.OneDecision.{one_decision}
use Rattle.px_solver.proofs.laws.one_decision.Goals as goal

pub returns : goal.returns
returns c = one_decision
