use Rattle.px_reading.proofs.SomeReading as Some
use Rattle.px_reading.proofs.laws.some_file.Goals as goal

pub returns : goal.returns
returns c = Some.some_file
