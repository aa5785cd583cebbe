use Rattle.std.proofs.Common.{◌≡◌, List, map, drop}
use Rattle.px_real_expressions.specs.Lexemes.{Lexeme}
use Rattle.px_real_declarations.specs.Names as Scopes
use Rattle.px_real_declaring.specs.Trees.{specifier_tree}
use Rattle.px_real_names.proofs.names.is_typedef.Given as goal

abbrev pub invariant-loop-specifier : goal.invariant-loop-specifier
invariant-loop-specifier l = (all : List Lexeme) → Scopes.is_typedef (map (specifier_tree all) (drop l.specifier-index l.specifiers)) ≡ Scopes.is_typedef (map (specifier_tree all) l.specifiers)
