use Rattle.std.proofs.Common.{ap}
use Rattle.std.specs.Prelude.{Some}
use Rattle.px_honest.specs.HonestLinks.{HonestParts}
use Rattle.exchange_cases.proofs.workers.outcome.Goals as goal

pub exchanged-requires-clause-step : goal.exchanged-requires-clause-step
exchanged-requires-clause-step g c κs within = c.new_links_are_in_step.ensures (Some c.in_ok-link.link.talk) (ap (λ (l : HonestParts). l.talk) c.in_ok-link.ensures)
