use Rattle.std.proofs.Common.{◌≡◌, length}
use Rattle.px_solver.specs.Tables.{MarksHard}
use Rattle.px_solver.proofs.components.hard_homes.Given as goal

abbrev pub invariant-loop-i : goal.invariant-loop-i
invariant-loop-i l = record {
  size : length l.marks.items ≡ l.count;
  marks : MarksHard l.conjuncts l.homes l.i l.marks.items;
}
