use Rattle.px_programs.proofs.BodiesKept.{listed}
use Rattle.px_programs.proofs.laws.bodies_have_their_numbers.Goals as goal

pub returns : goal.returns
returns c = listed
