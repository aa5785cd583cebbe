use Rattle.std.proofs.Common.{◌≡◌, ◌++◌, drop}
use Rattle.std.specs.Prelude.{flat_map}
use Rattle.px_entry.specs.Contents.{cell_variables}
use Rattle.px_regular.proofs.blocks.put_cells.Given as goal

-- the cells so far, with those of what is left
abbrev pub invariant-loop-content : goal.invariant-loop-content
invariant-loop-content l = l.cells.items ++ flat_map cell_variables (drop l.content-index l.all) ≡ l.fn.cells.items ++ flat_map cell_variables l.all
