use Rattle.std.proofs.Common.{◌≡◌, List, map, drop}
use Rattle.px_real_expressions.specs.Lexemes.{Lexeme}
use Rattle.px_real_declaring.specs.Trees.{specifier_tree}
use Rattle.px_real_types.specs.Linkage.{says_static}
use Rattle.px_real_types.proofs.linkage.says_static.Given as goal

abbrev pub invariant-loop-specifier : goal.invariant-loop-specifier
invariant-loop-specifier l = (all : List Lexeme) → says_static (map (specifier_tree all) (drop l.specifier-index l.specifiers)) ≡ says_static (map (specifier_tree all) l.specifiers)
