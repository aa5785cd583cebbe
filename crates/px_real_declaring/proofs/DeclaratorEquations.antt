-- The equations of `declarator_tree`, one for each variant.
use Rattle.std.proofs.Common.{◌≡◌, List, map, Box, Vec, Global, sym, ap, ◌∙◌, ℕ}
use Rattle.px_base.specs.declared.trace.Site.{Site}
use Rattle.px_real_expressions.specs.Lexemes.{Lexeme}
use Rattle.px_real_declarations.specs.DeclarationTree.{DeclaratorTree, no_name, a_name, inner, pointer}
use Rattle.px_real_declaring.specs.declared.tree.Group.{Group}
use Rattle.px_real_declaring.specs.declared.tree.Specifier.{Specifier}
use Rattle.px_real_declaring.specs.declared.tree.Suffix.{Suffix}
use Rattle.px_real_declaring.specs.declared.tree.Declarator.{Declarator, Declarator-F, fold-roll-Declarator}
use Rattle.px_real_declaring.specs.declared.tree.Declarator.TheVariants as D
use Rattle.px_real_declaring.specs.Trees.{group_tree, specifier_tree, all_suffixed, declarator_node, declarator_tree}

pub tree-NoName : (all : List Lexeme) → declarator_tree all D.NoName ≡ no_name
tree-NoName all = ap (declarator_tree all) (sym D.rolls-NoName) ∙ fold-roll-Declarator DeclaratorTree (declarator_node all) Declarator-F.NoName

pub tree-Name : (all : List Lexeme) (n : List ℕ) (s : Site) → declarator_tree all (D.Name n s) ≡ a_name n s
tree-Name all n s = ap (declarator_tree all) (sym (D.rolls-Name n s)) ∙ fold-roll-Declarator DeclaratorTree (declarator_node all) (Declarator-F.Name n s)

pub tree-Inner : (all : List Lexeme) (s : Site) (gs : Vec Group Global) (d : Box Declarator Global) → declarator_tree all (D.Inner s gs d) ≡ inner s (map (group_tree all) gs.items) (declarator_tree all d.value)
tree-Inner all s gs d = ap (declarator_tree all) (sym (D.rolls-Inner s gs d)) ∙ fold-roll-Declarator DeclaratorTree (declarator_node all) (Declarator-F.Inner s gs d)

pub tree-Pointer : (all : List Lexeme) (s : Site) (ss : Vec Specifier Global) (d : Box Declarator Global) → declarator_tree all (D.Pointer s ss d) ≡ pointer s (map (specifier_tree all) ss.items) (declarator_tree all d.value)
tree-Pointer all s ss d = ap (declarator_tree all) (sym (D.rolls-Pointer s ss d)) ∙ fold-roll-Declarator DeclaratorTree (declarator_node all) (Declarator-F.Pointer s ss d)

pub tree-Suffixed : (all : List Lexeme) (d : Box Declarator Global) (xs : Vec Suffix Global) → declarator_tree all (D.Suffixed d xs) ≡ all_suffixed all (declarator_tree all d.value) xs.items
tree-Suffixed all d xs = ap (declarator_tree all) (sym (D.rolls-Suffixed d xs)) ∙ fold-roll-Declarator DeclaratorTree (declarator_node all) (Declarator-F.Suffixed d xs)

pub ruleset trees = (tree-NoName, tree-Name, tree-Inner, tree-Pointer, tree-Suffixed)
