use Rattle.px_solver.proofs.PlainOnce.{one_plain_model}
use Rattle.px_solver.proofs.laws.one_plain_model.Goals as goal

pub returns : goal.returns
returns c = one_plain_model
