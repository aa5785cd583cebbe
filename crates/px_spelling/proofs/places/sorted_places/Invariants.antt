use Rattle.std.proofs.Common.{ℕ, ◌<◌}
use Rattle.std.specs.List.{Contains}
use Rattle.px_spelling.proofs.places.sorted_places.Given as goal

-- each place so far is there
abbrev pub invariant-loop-place : goal.invariant-loop-place
invariant-loop-place g l = (n : ℕ) → n < l.place → Contains l.places.items n
