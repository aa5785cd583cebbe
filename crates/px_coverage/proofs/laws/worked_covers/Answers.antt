use Rattle.px_coverage.proofs.WorkedLemmas.{worked}
use Rattle.px_coverage.proofs.laws.worked_covers.Goals as goal

pub returns : goal.returns
returns c = worked
