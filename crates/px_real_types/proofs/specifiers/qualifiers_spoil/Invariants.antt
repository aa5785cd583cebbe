use Rattle.std.proofs.Common.{◌≡◌, map, drop}
use Rattle.px_real_declaring.specs.Trees.{specifier_tree}
use Rattle.px_real_types.specs.Scopes.{texts}
use Rattle.px_real_types.specs.Specifiers.{qualifiers_spoil}
use Rattle.px_real_types.proofs.specifiers.qualifiers_spoil.Given as goal

abbrev pub invariant-loop-qualifier : goal.invariant-loop-qualifier
invariant-loop-qualifier l = qualifiers_spoil (map (specifier_tree (texts l.on)) (drop l.qualifier-index l.qualifiers)) ≡ qualifiers_spoil (map (specifier_tree (texts l.on)) l.qualifiers)
