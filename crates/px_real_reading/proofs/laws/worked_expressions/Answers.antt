use Rattle.px_real_reading.proofs.WorkedByReading as Reading
use Rattle.px_real_reading.proofs.laws.worked_expressions.Goals as goal

pub returns : goal.returns
returns c = Reading.worked
