use Rattle.std.specs.Prelude.{Some}
use Rattle.px_pool.specs.ScriptLink.{talk_of}
use Rattle.exchange_cases.proofs.scripts.followed.Goals as goal

pub exchanged-requires-clause-step : goal.exchanged-requires-clause-step
exchanged-requires-clause-step g c κs within = c.new_links_are_in_step.ensures (Some (talk_of c.new-link.result)) c.new-link.ensures.fresh
