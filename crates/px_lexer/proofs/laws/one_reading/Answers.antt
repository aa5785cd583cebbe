use Rattle.px_lexer.proofs.Readings as Readings
use Rattle.px_lexer.proofs.laws.one_reading.Goals as goal

pub returns : goal.returns
returns c = Readings.one_reading
