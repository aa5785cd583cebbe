use Rattle.px_worker.proofs.StopLemmas.{stops}
use Rattle.px_worker.proofs.laws.one_stop.Goals as goal

pub returns : goal.returns
returns c = stops c.one_spelling.ensures
