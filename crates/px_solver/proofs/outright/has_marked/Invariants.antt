use Rattle.std.proofs.Common.{take}
use Rattle.std.specs.Prelude.{All}
use Rattle.px_solver.specs.Tables.{IsMarked}
use Rattle.px_solver.proofs.outright.has_marked.Given as goal

abbrev pub invariant-loop-i : goal.invariant-loop-i
invariant-loop-i l = All (λ x. ¬ IsMarked l.marks x) (take l.i l.vars)
