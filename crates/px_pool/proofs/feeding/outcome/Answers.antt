use Rattle.px_pool.proofs.FeedingLemmas.{fed_whole, never_open}
use Rattle.px_pool.proofs.feeding.outcome.Goals as goal

pub returns-in-Open : goal.returns-in-Open
returns-in-Open c v j bytes w known = never_open v j bytes w c.args.fed _ c.in-Open.is known

pub returns : goal.returns
returns c v j bytes w known = fed_whole v j bytes w c.args.fed c.in-Done.answer c.in-Done.is known
