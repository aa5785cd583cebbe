use Rattle.std.proofs.Common.{ℕ, ◌<◌, get_or}
use Rattle.px_plain.specs.Differences.{difference_at, IfUnequal}
use Rattle.px_plain.proofs.places.are_unequal.Given as goal

abbrev pub invariant-loop-i : goal.invariant-loop-i
invariant-loop-i l = (i : ℕ) → i < l.i → IfUnequal (λ k. get_or l.numbers k 0) (difference_at l.differences i)
