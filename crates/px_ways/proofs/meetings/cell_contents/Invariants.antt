use Rattle.std.proofs.Common.{◌≡◌, ◌+◌, ◌++◌, drop}
use Rattle.px_callgraph.specs.Accesses.{cell_contents}
use Rattle.px_ways.proofs.meetings.cell_contents.Given as goal

abbrev pub invariant-loop-i : goal.invariant-loop-i
invariant-loop-i l = l.contents ++ cell_contents (l.first + l.i) (drop l.i l.cells) ≡ cell_contents l.first l.cells
