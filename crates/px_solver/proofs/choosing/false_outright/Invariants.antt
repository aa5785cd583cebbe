use Rattle.std.proofs.Common.{take}
use Rattle.px_solver.specs.Tables.{IsMarkedFalse, SelectsByHome}
use Rattle.px_solver.proofs.choosing.false_outright.Given as goal

abbrev pub invariant-loop-i : goal.invariant-loop-i
invariant-loop-i l = SelectsByHome (IsMarkedFalse l.table l.roots l.marks) (take l.i l.conjuncts) (take l.i l.homes) l.out
