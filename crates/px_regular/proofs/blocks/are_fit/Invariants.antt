use Rattle.std.proofs.Common.{◌≡◌, drop}
use Rattle.px_entry.specs.Contents.{fit_each, fits_cell}
use Rattle.px_regular.proofs.blocks.are_fit.Given as goal

-- what is left fits where all does
abbrev pub invariant-loop-content : goal.invariant-loop-content
invariant-loop-content l = fit_each (fits_cell l.vars) (drop l.place l.wanted) (drop l.content-index l.cells) ≡ fit_each (fits_cell l.vars) l.wanted l.cells
