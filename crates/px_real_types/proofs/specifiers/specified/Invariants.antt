use Rattle.std.proofs.Common.{◌≡◌, map, drop}
use Rattle.px_real_declaring.specs.Trees.{specifier_tree}
use Rattle.px_real_types.specs.declared.specifiers.Said.TheVariants as D
use Rattle.px_real_types.specs.Scopes.{texts}
use Rattle.px_real_types.specs.Specifiers.{said_by}
use Rattle.px_real_types.proofs.specifiers.specified.Given as goal

-- what was said, and what is left to say, are all
abbrev pub invariant-loop-specifier : goal.invariant-loop-specifier
invariant-loop-specifier g l =
    said_by (g.S.Scope.meanings l.scope) l.said (map (specifier_tree (texts l.on)) (drop l.specifier-index l.specifiers))
    ≡ said_by (g.S.Scope.meanings l.scope) D.Nothing (map (specifier_tree (texts l.on)) l.specifiers)
