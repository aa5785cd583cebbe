use Rattle.px_pool.proofs.LinkTalks.{talks_follow}
use Rattle.px_pool.proofs.laws.talks_follow.Goals as goal

pub returns : goal.returns
returns c = talks_follow
