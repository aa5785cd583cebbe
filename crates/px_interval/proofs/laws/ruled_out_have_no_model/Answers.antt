use Rattle.px_interval.proofs.ModelLaw.{ruled_out}
use Rattle.px_interval.proofs.laws.ruled_out_have_no_model.Goals as goal

pub returns : goal.returns
returns c = ruled_out
