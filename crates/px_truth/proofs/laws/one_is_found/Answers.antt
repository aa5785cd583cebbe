use Rattle.px_truth.proofs.OneFound.{one_found}
use Rattle.px_truth.proofs.laws.one_is_found.Goals as goal

pub returns : goal.returns
returns c = one_found c.one_process.ensures
