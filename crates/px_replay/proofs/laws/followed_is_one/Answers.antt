use Rattle.px_replay.proofs.OneFollowed.{followed_alike}
use Rattle.px_replay.proofs.laws.followed_is_one.Goals as goal

pub returns : goal.returns
returns c = followed_alike
