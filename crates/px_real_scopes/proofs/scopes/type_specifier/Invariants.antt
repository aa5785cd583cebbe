use Rattle.std.proofs.Common.{◌≡◌, List, map, drop}
use Rattle.px_real_expressions.specs.Lexemes.{Lexeme}
use Rattle.px_real_declaring.specs.Trees.{specifier_tree}
use Rattle.px_real_scopes.specs.Lookups.{first_said}
use Rattle.px_real_scopes.specs.Knowing.{if_type}
use Rattle.px_real_scopes.proofs.scopes.type_specifier.Given as goal

-- it is the first of what is left
abbrev pub invariant-loop-specifier : goal.invariant-loop-specifier
invariant-loop-specifier l = (all : List Lexeme) → first_said if_type (map (specifier_tree all) (drop l.specifier-index l.specifiers)) ≡ first_said if_type (map (specifier_tree all) l.specifiers)
