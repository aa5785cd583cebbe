use Rattle.std.proofs.Common.{◌≡◌, take}
use Rattle.px_entry.proofs.by_value.equal_marks.Given as goal

abbrev pub invariant-loop-i : goal.invariant-loop-i
invariant-loop-i l = take l.i l.a ≡ take l.i l.b
