use Rattle.std.proofs.Common.{◌≡◌, drop}
use Rattle.px_entry.specs.Contents.{fit_each}
use Rattle.px_entry.specs.Regular.{is_own_cell}
use Rattle.px_regular.proofs.blocks.are_own_cells.Given as goal

-- what is left are own cells where all are
abbrev pub invariant-loop-content : goal.invariant-loop-content
invariant-loop-content l = fit_each (is_own_cell l.vars) (drop l.place l.wanted) (drop l.content-index l.cells) ≡ fit_each (is_own_cell l.vars) l.wanted l.cells
