use Rattle.std.proofs.Common.{◌≡◌, ◌++◌, map, drop}
use Rattle.px_real_declaring.specs.Trees.{declared_tree}
use Rattle.px_real_types.specs.Scopes.{texts}
use Rattle.px_real_types.specs.Cells.{cell_tree, members_cells}
use Rattle.px_real_types.proofs.cells.add_members.Given as goal

-- the cells so far, and those of the members that are left, are all
abbrev pub invariant-loop-member : goal.invariant-loop-member
invariant-loop-member l =
    map cell_tree l.cells.items ++ members_cells l.shape (map (declared_tree (texts l.on)) (drop l.member-index l.members))
    ≡ map cell_tree l.initial.cells.items ++ members_cells l.shape (map (declared_tree (texts l.on)) l.members)
