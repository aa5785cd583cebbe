use Rattle.px_solver.proofs.RuleLemmas.{refuted_have_no_model}
use Rattle.px_solver.proofs.laws.refuted_have_no_model.Goals as goal

pub returns : goal.returns
returns c = refuted_have_no_model
