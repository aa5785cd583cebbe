use Rattle.px_solver.specs.Tables.{MarksSaid}
use Rattle.px_solver.proofs.outright.mark_all.Given as goal

abbrev pub invariant-loop-i : goal.invariant-loop-i
invariant-loop-i l = MarksSaid l.conjuncts l.i l.marks
