-- The declarations of the code as the plain trees of the grammar, by the lexemes that were read.
use Rattle.std.specs.Prelude.{List, [], ◌∷◌, map, option_map}
use Rattle.px_real_expressions.specs.Lexemes.{Lexeme}
use Rattle.px_real_symbols.specs.Symbols.{held_in}
use Rattle.px_real_declarations.specs.DeclarationTree.{GroupTree, SpecifierTree, keyword, type_name, group, tagged, DeclaratorTree, no_name, a_name, inner, pointer, array, function, DeclaredTree, DeclarationTree, declaration, assertion}
use Rattle.px_real_declaring.specs.declared.tree.Group.{Group}
use Rattle.px_real_declaring.specs.declared.tree.Specifier.{Specifier}
use Rattle.px_real_declaring.specs.declared.tree.Specifier.TheVariants as S
use Rattle.px_real_declaring.specs.declared.tree.Suffix.{Suffix}
use Rattle.px_real_declaring.specs.declared.tree.Suffix.TheVariants as B
use Rattle.px_real_declaring.specs.declared.tree.Declarator.{Declarator}
use Rattle.px_real_declaring.specs.declared.tree.Declarator.TheOpen.{Declarator-F}
use Rattle.px_real_declaring.specs.declared.tree.Declarator.TheFolds.{fold-Declarator}
use Rattle.px_real_declaring.specs.declared.tree.Declared.{Declared}
use Rattle.px_real_declaring.specs.declared.tree.Declaration.{Declaration}
use Rattle.px_real_declaring.specs.declared.tree.Declaration.TheVariants as D

abbrev pub group_tree : List Lexeme → Group → GroupTree
group_tree all g = record { word = g.word; site = g.site; held = held_in all g.held }

abbrev pub specifier_tree : List Lexeme → Specifier → SpecifierTree
specifier_tree all (S.Keyword word site) = keyword word site
specifier_tree all (S.TypeName name site) = type_name name site
specifier_tree all (S.Group g) = group (group_tree all g)
specifier_tree all (S.Tagged word site attributes tag held) = tagged word site (map (group_tree all) attributes.items) tag (option_map (held_in all) held)

-- a declarator with what stands behind it
abbrev pub suffixed : List Lexeme → DeclaratorTree → Suffix → DeclaratorTree
suffixed all d (B.Array site held) = array site d (held_in all held)
suffixed all d (B.Function site held) = function site d (held_in all held)

abbrev pub all_suffixed : List Lexeme → DeclaratorTree → List Suffix → DeclaratorTree
all_suffixed all d [] = d
all_suffixed all d (s ∷ rest) = all_suffixed all (suffixed all d s) rest

abbrev pub declarator_node : List Lexeme → Declarator-F DeclaratorTree → DeclaratorTree
declarator_node all Declarator-F.NoName = no_name
declarator_node all (Declarator-F.Name name site) = a_name name site
declarator_node all (Declarator-F.Inner site attributes inside) = inner site (map (group_tree all) attributes.items) inside.value
declarator_node all (Declarator-F.Pointer site qualifiers target) = pointer site (map (specifier_tree all) qualifiers.items) target.value
declarator_node all (Declarator-F.Suffixed core suffixes) = all_suffixed all core.value suffixes.items

abbrev pub declarator_tree : List Lexeme → Declarator → DeclaratorTree
declarator_tree all = fold-Declarator DeclaratorTree (declarator_node all)

abbrev pub declared_tree : List Lexeme → Declared → DeclaredTree
declared_tree all d = record {
  before = map (group_tree all) d.before.items;
  declarator = declarator_tree all d.declarator;
  label = option_map (group_tree all) d.label;
  after = map (group_tree all) d.after.items;
  value = option_map (held_in all) d.value;
}

abbrev pub declaration_tree : List Lexeme → Declaration → DeclarationTree
declaration_tree all (D.Declaration specifiers declared) = declaration (map (specifier_tree all) specifiers.items) (map (declared_tree all) declared.items)
declaration_tree all (D.Assertion g) = assertion (group_tree all g)
