use Rattle.std.proofs.Common.{◌≡◌, ◌++◌, map, drop}
use Rattle.px_real_declaring.specs.Trees.{declared_tree}
use Rattle.px_real_types.specs.Scopes.{texts}
use Rattle.px_real_types.specs.Linkage.{weak_among}
use Rattle.px_real_types.proofs.linkage.add_all_weak.Given as goal

-- the names so far, and those of what is left, are all
abbrev pub invariant-loop-each : goal.invariant-loop-each
invariant-loop-each l =
    l.names.items ++ weak_among l.all (map (declared_tree (texts l.on)) (drop l.each-index l.declared)) ≡ l.initial.names.items ++ weak_among l.all (map (declared_tree (texts l.on)) l.declared)
