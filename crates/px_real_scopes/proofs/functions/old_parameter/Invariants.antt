use Rattle.std.proofs.Common.{◌≡◌, map, drop}
use Rattle.px_real_declaring.specs.Trees.{declaration_tree}
use Rattle.px_real_types.specs.Scopes.{texts}
use Rattle.px_real_scopes.specs.Lookups.{first_said}
use Rattle.px_real_scopes.specs.Functions.{says_parameters}
use Rattle.px_real_scopes.proofs.functions.old_parameter.Given as goal

-- what is left says it
abbrev pub invariant-loop-declaration : goal.invariant-loop-declaration
invariant-loop-declaration l =
    first_said (says_parameters l.scopes l.word) (map (declaration_tree (texts l.on)) (drop l.declaration-index l.declarations)) ≡ first_said (says_parameters l.scopes l.word) (map (declaration_tree (texts l.on)) l.declarations)
