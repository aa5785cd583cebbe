use Rattle.std.proofs.Common.{◌≡◌, ◌++◌, take}
use Rattle.px_calls.proofs.finishing.put_marks.Given as goal

abbrev pub invariant-loop-mark : goal.invariant-loop-mark
invariant-loop-mark l = l.trace ≡ l.fn.trace ++ take l.mark-index l.more
