use Rattle.px_serving.proofs.OutcomeLemmas.{served}
use Rattle.px_serving.proofs.laws.whole_requests_are_served.Goals as goal

pub returns : goal.returns
returns c = served c.whole_inputs.ensures
