use Rattle.px_pool.proofs.LinkTalks.{exchanges_keep_step}
use Rattle.px_pool.proofs.laws.exchanges_keep_step.Goals as goal

pub returns : goal.returns
returns c = exchanges_keep_step
