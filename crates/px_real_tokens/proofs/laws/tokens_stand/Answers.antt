use Rattle.px_real_tokens.proofs.Readings as Readings
use Rattle.px_real_tokens.proofs.laws.tokens_stand.Goals as goal

pub returns : goal.returns
returns c = Readings.tokens_stand
