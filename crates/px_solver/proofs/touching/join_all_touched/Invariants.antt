use Rattle.std.proofs.Common.{take}
use Rattle.std.specs.List.{AllZip}
use Rattle.px_solver.specs.Tables.{Joins, HasFirst}
use Rattle.px_solver.proofs.touching.join_all_touched.Given as goal

abbrev pub invariant-loop-conjunct : goal.invariant-loop-conjunct
invariant-loop-conjunct l = record {
  joins : Joins l.table (take l.conjunct-index l.conjuncts) l.components;
  firsts : AllZip (HasFirst l.table) (take l.conjunct-index l.conjuncts) l.homes.items;
}
