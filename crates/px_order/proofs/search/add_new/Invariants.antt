use Rattle.std.proofs.Common.{◌≡◌, ℕ, ◌+◌, ◌-◌, ◌≤◌, length}
use Rattle.px_order.specs.Searches.{mark_at}
use Rattle.px_order.proofs.search.add_new.Given as goal

abbrev pub invariant-loop-marks : goal.invariant-loop-marks
invariant-loop-marks l = record {
  grows : length l.initial.marks.items ≤ length l.marks.items;
  same : (x : ℕ) → mark_at l.marks.items x ≡ mark_at l.initial.marks.items x;
}

abbrev pub decreases-loop-marks : goal.decreases-loop-marks
decreases-loop-marks l = l.variable + 1 - length l.marks.items
