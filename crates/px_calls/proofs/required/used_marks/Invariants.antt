use Rattle.px_calls.specs.Required.{AreMarked}
use Rattle.px_calls.proofs.required.used_marks.Given as goal

abbrev pub invariant-loop-n : goal.invariant-loop-n
invariant-loop-n l = AreMarked l.used l.n l.marks.items
