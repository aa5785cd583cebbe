use Rattle.px_lower.proofs.Worked.{worked}
use Rattle.px_lower.proofs.laws.worked_bodies.Goals as goal

pub returns : goal.returns
returns c = worked
