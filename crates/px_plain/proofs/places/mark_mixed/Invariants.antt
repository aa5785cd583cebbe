use Rattle.px_plain.specs.Places.{MarksMixed}
use Rattle.px_plain.proofs.places.mark_mixed.Given as goal

abbrev pub invariant-loop-x : goal.invariant-loop-x
invariant-loop-x l = MarksMixed l.vars l.table l.x l.marks.items
