use Rattle.px_lower.proofs.BodiesLaw.{bodies}
use Rattle.px_lower.proofs.laws.bodies_keep.Goals as goal

pub returns : goal.returns
returns c = bodies
