use Rattle.px_real_scopes.proofs.WorkedByReading as Reading
use Rattle.px_real_scopes.proofs.laws.worked_scopes.Goals as goal

pub returns : goal.returns
returns c = Reading.worked
