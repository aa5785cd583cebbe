use Rattle.std.proofs.Common.{◌≡◌, ◌++◌, take}
use Rattle.px_solver.specs.Candidates.{fixed_contents}
use Rattle.px_solver.specs.Tables.{fixed_under}
use Rattle.px_solver.proofs.candidates.push_product.Given as goal

abbrev pub invariant-loop-i : goal.invariant-loop-i
invariant-loop-i l = l.with.items ≡ l.initial.with.items ++ fixed_contents (fixed_under l.table) (take l.i l.vars)
