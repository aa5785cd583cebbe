use Rattle.px_pool.proofs.LinkTalks.{frames_are_given}
use Rattle.px_pool.proofs.laws.frames_are_given.Goals as goal

pub returns : goal.returns
returns c = frames_are_given
