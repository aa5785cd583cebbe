use Rattle.px_pool.proofs.LinkTalks.{new_in_step}
use Rattle.px_pool.proofs.laws.new_links_are_in_step.Goals as goal

pub returns : goal.returns
returns c = new_in_step
