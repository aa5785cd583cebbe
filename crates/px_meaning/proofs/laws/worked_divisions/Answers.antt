use Rattle.px_meaning.proofs.WorkedOnDivisions.{divisions}
use Rattle.px_meaning.proofs.laws.worked_divisions.Goals as goal

pub returns : goal.returns
returns c = divisions
