use Rattle.px_lexer.proofs.Readings as Readings
use Rattle.px_lexer.proofs.laws.tokens_stand.Goals as goal

pub returns : goal.returns
returns c = Readings.tokens_stand
