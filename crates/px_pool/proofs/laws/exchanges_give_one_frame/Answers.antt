use Rattle.px_pool.proofs.LinkTalks.{one_frame_more}
use Rattle.px_pool.proofs.laws.exchanges_give_one_frame.Goals as goal

pub returns : goal.returns
returns c = one_frame_more
