use Rattle.px_plain.specs.Marks.{MarksUnwritten}
use Rattle.px_plain.proofs.marks.mark_unwritten.Given as goal

abbrev pub invariant-loop-i : goal.invariant-loop-i
invariant-loop-i l = MarksUnwritten l.vars l.unwritten l.i l.marks.items
