use Rattle.px_solver.proofs.OneDecision.{found_models_fit}
use Rattle.px_solver.proofs.laws.found_models_fit.Goals as goal

pub returns : goal.returns
returns c = found_models_fit
