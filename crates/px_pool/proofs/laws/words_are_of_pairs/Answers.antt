use Rattle.px_pool.proofs.LinkTalks.{words_are_of_pairs}
use Rattle.px_pool.proofs.laws.words_are_of_pairs.Goals as goal

pub returns : goal.returns
returns g c = words_are_of_pairs g.H.Honesty.says
