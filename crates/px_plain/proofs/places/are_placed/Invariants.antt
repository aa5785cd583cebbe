use Rattle.std.proofs.Common.{ℕ, ◌<◌}
use Rattle.px_plain.specs.Places.{IsPlaced}
use Rattle.px_plain.proofs.places.are_placed.Given as goal

abbrev pub invariant-loop-x : goal.invariant-loop-x
invariant-loop-x l = (x : ℕ) → x < l.x → IsPlaced l.vars l.numbers x
