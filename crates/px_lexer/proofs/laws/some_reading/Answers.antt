use Rattle.px_lexer.proofs.Readings as Readings
use Rattle.px_lexer.proofs.laws.some_reading.Goals as goal

pub returns : goal.returns
returns c = Readings.some_reading
