use Rattle.std.proofs.Common.{◌∷◌}
use Rattle.px_plain.specs.Held.{OfApart}
use Rattle.px_explore.proofs.trail.Trail.refutes_apart.Goals as goal

pub push_apart-requires : goal.push_apart-requires
push_apart-requires c = let (items, on, s, n) = c.requires in (items, on.stack, s, n)

pub returns-in_err-push_apart-clause-stacked : goal.returns-in_err-push_apart-clause-stacked
returns-in_err-push_apart-clause-stacked c = λ items on. record { stack = c.in_err-push_apart.ensures.failed items on.stack; holders = on.holders }

pub pop-requires : goal.pop-requires
pop-requires c = let (items, on, s, n) = c.requires in (OfApart c.args.place.0, items, c.in_ok-push_apart.ensures.pushed items on.stack)

pub returns-clause-answer : goal.returns-clause-answer
returns-clause-answer c = λ items on. c.refuted-refuted.ensures (OfApart c.args.place.0 ∷ items) (c.in_ok-push_apart.ensures.pushed items on.stack)

pub returns-clause-stacked : goal.returns-clause-stacked
returns-clause-stacked c = λ items on. record { stack = c.pop.ensures (OfApart c.args.place.0) items (c.in_ok-push_apart.ensures.pushed items on.stack); holders = on.holders }
