use Rattle.px_real_tokens.proofs.Readings as Readings
use Rattle.px_real_tokens.proofs.laws.some_reading.Goals as goal

pub returns : goal.returns
returns c = Readings.some_reading
