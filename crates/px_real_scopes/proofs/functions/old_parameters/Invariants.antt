use Rattle.std.proofs.Common.{◌≡◌, ◌++◌, map, drop}
use Rattle.px_real_declaring.specs.Trees.{declaration_tree}
use Rattle.px_real_types.specs.Scopes.{texts}
use Rattle.px_real_scopes.specs.Functions.{old_parameter}
use Rattle.px_real_scopes.proofs.functions.old_parameters.Given as goal

-- with those of what is left these are all
abbrev pub invariant-loop-word : goal.invariant-loop-word
invariant-loop-word l =
    l.types.items ++ map (old_parameter l.scopes (map (declaration_tree (texts l.on)) l.declarations)) (drop l.word-index l.words)
    ≡ l.initial.types.items ++ map (old_parameter l.scopes (map (declaration_tree (texts l.on)) l.declarations)) l.words
