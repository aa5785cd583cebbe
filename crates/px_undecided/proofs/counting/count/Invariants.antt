use Rattle.std.proofs.Common.{◌≡◌, ◌+◌, ◌≤◌, drop}
use Rattle.std.specs.Prelude.{count_by}
use Rattle.px_undecided.specs.Counting.{is_same}
use Rattle.px_undecided.proofs.counting.count.Given as goal

abbrev pub invariant-loop-other : goal.invariant-loop-other
invariant-loop-other l = (l.count + count_by (is_same l.look) (drop l.other-index l.looks) ≡ count_by (is_same l.look) l.looks) × (l.count ≤ l.other-index)
