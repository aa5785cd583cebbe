use Rattle.px_reading.proofs.OneReading.{determined}
use Rattle.px_reading.proofs.laws.one_file.Goals as goal

pub returns : goal.returns
returns c = determined
