use Rattle.px_order.proofs.ModelLaw.{ruled_out}
use Rattle.px_order.proofs.laws.ruled_out_have_no_model.Goals as goal

pub returns : goal.returns
returns c = ruled_out
