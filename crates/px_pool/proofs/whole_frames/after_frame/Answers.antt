use Rattle.px_pool.proofs.CountLemmas.{shorter_after}
use Rattle.px_pool.proofs.whole_frames.after_frame.Goals as goal

pub returns-in-Some-clause-found : goal.returns-in-Some-clause-found
returns-in-Some-clause-found c = (c.in-Some._message.now, c.in-Some.ensures.found.0, c.in-Some.ensures.found.1)

pub returns-in-Some-clause-shorter : goal.returns-in-Some-clause-shorter
returns-in-Some-clause-shorter c = shorter_after c.args.bytes.now c.in-Some._message.now c.in-Some.rest.now c.in-Some.ensures.found
