use Rattle.std.proofs.Common.{◌≡◌, ◌++◌, take}
use Rattle.px_solver.specs.Tables.{roots_of}
use Rattle.px_solver.proofs.touching.push_product.Given as goal

abbrev pub invariant-loop-i : goal.invariant-loop-i
invariant-loop-i l = l.out.items ≡ l.initial.out.items ++ roots_of l.table (take l.i l.vars)
