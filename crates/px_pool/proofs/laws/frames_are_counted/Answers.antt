use Rattle.px_pool.proofs.CountLemmas.{frames_are_counted}
use Rattle.px_pool.proofs.laws.frames_are_counted.Goals as goal

pub returns : goal.returns
returns c = frames_are_counted
