use Rattle.std.proofs.Common.{◌≡◌, List, ◌++◌, map, drop}
use Rattle.px_real_expressions.specs.Lexemes.{Lexeme}
use Rattle.px_real_declarations.specs.Names.{enumerator_name}
use Rattle.px_real_members.specs.Trees.{enumerator_tree}
use Rattle.px_real_names.proofs.enumerated.add_enumerators.Given as goal

-- the names so far, and those of what is left, are all
abbrev pub invariant-loop-enumerator : goal.invariant-loop-enumerator
invariant-loop-enumerator l =
    (all : List Lexeme) → l.names.items ++ map enumerator_name (map (enumerator_tree all) (drop l.enumerator-index l.enumerators)) ≡ l.initial.names.items ++ map enumerator_name (map (enumerator_tree all) l.enumerators)
