use Rattle.std.proofs.Common.{◌∷◌}
use Rattle.px_plain.specs.Held.{OfConj}
use Rattle.px_explore.proofs.trail.Trail.refutes_plainly.Goals as goal

pub push-requires : goal.push-requires
push-requires c = let (items, on, s, n) = c.requires in (items, on.stack, s, n)

pub returns-in_err-push-clause-stacked : goal.returns-in_err-push-clause-stacked
returns-in_err-push-clause-stacked c = λ items on. record { stack = c.in_err-push.ensures.failed items on.stack; holders = on.holders }

pub pop-requires : goal.pop-requires
pop-requires c = let (items, on, s, n) = c.requires in (OfConj c.args.conjunct.now, items, c.in_ok-push.ensures.pushed items on.stack)

pub returns-clause-answer : goal.returns-clause-answer
returns-clause-answer c = λ items on. c.refuted-refuted.ensures (OfConj c.args.conjunct.now ∷ items) (c.in_ok-push.ensures.pushed items on.stack)

pub returns-clause-stacked : goal.returns-clause-stacked
returns-clause-stacked c = λ items on. record { stack = c.pop.ensures (OfConj c.args.conjunct.now) items (c.in_ok-push.ensures.pushed items on.stack); holders = on.holders }
