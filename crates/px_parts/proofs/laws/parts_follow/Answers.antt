use Rattle.px_parts.proofs.Following.{parts_follow}
use Rattle.px_parts.proofs.laws.parts_follow.Goals as goal

pub returns : goal.returns
returns c = parts_follow
