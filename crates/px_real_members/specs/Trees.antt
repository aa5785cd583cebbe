-- What the code has of enumerators and parameters as the plain trees of the grammar, by the lexemes that were read.
use Rattle.std.specs.Prelude.{List, drop, map, option_map}
use Rattle.px_real_expressions.specs.Lexemes.{Lexeme}
use Rattle.px_real_symbols.specs.Symbols.{held_in}
use Rattle.px_real_declarations.specs.DeclarationTree.{EnumeratorTree, ParametersTree, parameters, identifiers, HeadTree}
use Rattle.px_real_declarations.specs.HeldReading as Held
use Rattle.px_real_declaring.specs.Trees.{group_tree, specifier_tree, declarator_tree, declaration_tree}
use Rattle.px_real_members.specs.declared.tree.Enumerator.{Enumerator}
use Rattle.px_real_members.specs.declared.tree.Parameters.{Parameters}
use Rattle.px_real_members.specs.declared.tree.Parameters.TheVariants as P
use Rattle.px_real_members.specs.declared.tree.Head.{Head}
use Rattle.px_real_members.specs.declared.commas.Next.{Next}
use Rattle.px_real_members.specs.declared.commas.Next.TheVariants as N

abbrev pub enumerator_tree : List Lexeme → Enumerator → EnumeratorTree
enumerator_tree all e = record { name = e.name; site = e.site; attributes = map (group_tree all) e.attributes.items; value = option_map (held_in all) e.value }

abbrev pub parameters_tree : List Lexeme → Parameters → ParametersTree
parameters_tree all (P.Declared ds variadic) = parameters (map (declaration_tree all) ds.items) variadic
parameters_tree all (P.Names words) = identifiers words.items

abbrev pub head_tree : List Lexeme → Head → HeadTree
head_tree all h = record { specifiers = map (specifier_tree all) h.specifiers.items; declarator = declarator_tree all h.declarator; declarations = map (declaration_tree all) h.declarations.items }

-- what follows one of several, and the tokens after it
abbrev pub next_view : List Lexeme → Next → Held.Next
next_view all (N.Last at) = Held.last (drop at all)
next_view all (N.Dots at) = Held.dots (drop at all)
next_view all (N.Another at) = Held.another (drop at all)
