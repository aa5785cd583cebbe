use Rattle.px_pool.proofs.ExchangeLemmas.{answers_are_one_frame}
use Rattle.px_pool.proofs.laws.answers_are_one_frame.Goals as goal

pub returns : goal.returns
returns c = answers_are_one_frame
