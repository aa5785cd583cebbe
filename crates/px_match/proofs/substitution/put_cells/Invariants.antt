use Rattle.std.proofs.Common.{◌≡◌, ◌++◌, drop}
use Rattle.px_callgraph.specs.Renaming.{stand_cells}
use Rattle.px_match.proofs.substitution.put_cells.Given as goal

abbrev pub invariant-loop-i : goal.invariant-loop-i
invariant-loop-i l = l.substitution.items ++ stand_cells (drop l.i l.theirs) (drop l.i l.ours) ≡ l.fn.substitution.items ++ stand_cells l.theirs l.ours
