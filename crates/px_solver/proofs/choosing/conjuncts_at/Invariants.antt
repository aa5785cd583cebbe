use Rattle.std.proofs.Common.{take}
use Rattle.px_solver.specs.Tables.{IsAtHome, SelectsByHome}
use Rattle.px_solver.proofs.choosing.conjuncts_at.Given as goal

abbrev pub invariant-loop-i : goal.invariant-loop-i
invariant-loop-i l = SelectsByHome (IsAtHome l.home) (take l.i l.conjuncts) (take l.i l.homes) l.out
