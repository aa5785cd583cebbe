use Rattle.std.proofs.Common.{inl, inr, length, arith}
use Rattle.std.proofs.lemmas.Bool.{cases_lt}
use Rattle.px_leak.proofs.GotLemmas.{together_end}
use Rattle.px_leak.proofs.got.together.Goals as goal

pub returns : goal.returns
returns c =
    let made = c.args.made.now in
    let spots = c.args.spots.now in
    let i = c.loop-i.i in
    let last = c.loop-i-test.false in
    let least = c.min-i-end.ensures in
    together_end made spots i _ _
    (elim (cases_lt i (length made)) [
      | inl l ↦ inr (omega arith)
      | inr l ↦ inl l
    ])
    c.loop-i.invariant
