use Rattle.std.proofs.Common.{◌≡◌, ◌++◌, take}
use Rattle.px_callgraph.specs.Accesses.{cell_infos}
use Rattle.px_ways.proofs.meetings.add_cells.Given as goal

abbrev pub invariant-loop-value : goal.invariant-loop-value
invariant-loop-value l = l.vars ≡ l.fn.vars ++ cell_infos (take l.value-index l.cells)
