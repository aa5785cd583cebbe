use Rattle.std.proofs.Common.{◌≡◌, ◌++◌, map, drop}
use Rattle.px_real_declaring.specs.Trees.{declaration_tree}
use Rattle.px_real_types.specs.Scopes.{texts}
use Rattle.px_real_types.specs.Cells.{parameter_of}
use Rattle.px_real_scopes.specs.Lookups.{meanings}
use Rattle.px_real_scopes.proofs.functions.all_types.Given as goal

-- with those of what is left these are all
abbrev pub invariant-loop-parameter : goal.invariant-loop-parameter
invariant-loop-parameter l =
    l.types.items ++ map (parameter_of (meanings l.scopes)) (map (declaration_tree (texts l.on)) (drop l.parameter-index l.parameters))
    ≡ l.initial.types.items ++ map (parameter_of (meanings l.scopes)) (map (declaration_tree (texts l.on)) l.parameters)
