use Rattle.std.proofs.Common.{◌≡◌, List, map, drop}
use Rattle.px_real_expressions.specs.Lexemes.{Lexeme}
use Rattle.px_real_declarations.specs.Names as Scopes
use Rattle.px_real_declaring.specs.Trees.{declared_tree}
use Rattle.px_real_names.proofs.names.Names.add_all.Given as goal

-- with what is left these are all
abbrev pub invariant-loop-each : goal.invariant-loop-each
invariant-loop-each l =
    (all : List Lexeme) → Scopes.with_declared l.is_type (map (declared_tree all) (drop l.each-index l.declared)) l.self ≡ Scopes.with_declared l.is_type (map (declared_tree all) l.declared) l.initial.self
