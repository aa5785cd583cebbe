use Rattle.px_worker.proofs.StopLemmas.{whole_inputs}
use Rattle.px_worker.proofs.laws.whole_inputs.Goals as goal

pub returns : goal.returns
returns c = whole_inputs c.one_spelling.ensures
