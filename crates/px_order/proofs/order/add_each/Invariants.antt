use Rattle.std.proofs.Common.{◌≡◌, ◌++◌, take}
use Rattle.px_order.specs.Comparisons.{HaveNoSolution}
use Rattle.px_order.proofs.order.add_each.Given as goal

abbrev pub invariant-loop-comparison : goal.invariant-loop-comparison
invariant-loop-comparison l = record {
  added : l.kept ≡ l.fn.kept ++ take l.comparison-index l.added;
  solvable : HaveNoSolution l.kept → HaveNoSolution l.fn.kept;
}
