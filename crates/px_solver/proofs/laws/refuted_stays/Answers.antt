use Rattle.px_solver.proofs.Growing.{refuted_stays}
use Rattle.px_solver.proofs.laws.refuted_stays.Goals as goal

pub returns : goal.returns
returns c = refuted_stays
