use Rattle.std.proofs.Common.{◌≡◌, ◌++◌, map, drop}
use Rattle.px_real_declaring.specs.Trees.{declaration_tree}
use Rattle.px_real_types.specs.Scopes.{texts}
use Rattle.px_real_types.specs.Cells.{cell_tree, all_cells}
use Rattle.px_real_types.proofs.cells.all_cells.Given as goal

-- the cells so far, and those of the members that are left, are all
abbrev pub invariant-loop-member : goal.invariant-loop-member
invariant-loop-member g l =
    map cell_tree l.cells.items ++ all_cells (g.S.Scope.meanings l.scope) (map (declaration_tree (texts l.on)) (drop l.member-index l.members))
    ≡ all_cells (g.S.Scope.meanings l.scope) (map (declaration_tree (texts l.on)) l.members)
