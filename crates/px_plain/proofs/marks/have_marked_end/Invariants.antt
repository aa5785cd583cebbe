use Rattle.std.proofs.Common.{ℕ, ◌<◌}
use Rattle.px_plain.specs.Differences.{difference_at}
use Rattle.px_plain.specs.Marks.{HasUnmarkedEnds}
use Rattle.px_plain.proofs.marks.have_marked_end.Given as goal

abbrev pub invariant-loop-i : goal.invariant-loop-i
invariant-loop-i l = (i : ℕ) → i < l.i → HasUnmarkedEnds l.marks (difference_at l.differences i)
