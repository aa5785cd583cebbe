-- What is said of a declarator with something behind it, from what the code reads of it.
use Rattle.std.proofs.Common.{◌≡◌, ◌-◌, ◌≤◌, List, length, take, drop, slice_get, Option, Some, None, Box, Vec, Global, sym, ap, ◌∙◌, arith}
use Rattle.std.proofs.lemmas.List.{take_all, length-drop}
use Rattle.px_real_expressions.specs.Lexemes.{Lexeme}
use Rattle.px_real_declaring.specs.declared.tree.Suffix.{Suffix}
use Rattle.px_real_declaring.specs.declared.tree.Declarator.{Declarator}
use Rattle.px_real_declaring.specs.declared.tree.Declarator.TheVariants as D
use Rattle.px_real_declaring.specs.Trees.{declarator_tree, all_suffixed}
use Rattle.px_real_declaring.proofs.DeclaratorEquations.{tree-Suffixed}
use Rattle.px_real_types.specs.declared.shape.Shape.{Shape}
use Rattle.px_real_types.specs.Declarators.{SignatureTree, declared, function_in, own_signature, before_suffix, before_all}
use Rattle.px_real_types.proofs.DeclaratorLemmas.{declared_before, function_own, function_within}

module _ (all : List Lexeme) (x : Declarator) (core : Box Declarator Global) (xs : Vec Suffix Global) (is : x ≡ D.Suffixed core xs) where
  -- its tree
  pub tree_is : declarator_tree all x ≡ all_suffixed all (declarator_tree all core.value) xs.items
  tree_is = ap (declarator_tree all) is ∙ tree-Suffixed all core xs

  pub declared_is : (d : Declarator) (ys : List Suffix) (b s r : Shape) → d ≡ core.value → ys ≡ xs.items → b ≡ before_all ys s → r ≡ declared (declarator_tree all d) b → r ≡ declared (declarator_tree all x) s
  declared_is d ys b s r ed ey eb h =
      h ∙ ap (λ z. declared (declarator_tree all z) b) ed ∙ ap (declared (declarator_tree all core.value)) (eb ∙ ap (λ z. before_all z s) ey)
      ∙ sym (ap (λ z. declared z s) tree_is ∙ declared_before all (declarator_tree all core.value) xs.items s)

  module _ (d : Declarator) (ys zs : List Suffix) (first : Suffix) (b s : Shape) (ed : d ≡ core.value) (ey : ys ≡ xs.items) (ez : zs ≡ xs.items) (at_front : Some first ≡ slice_get ys 0) (eb : b ≡ before_all (take (length zs - 1) (drop 1 zs)) s) where
    before_is : b ≡ before_all (drop 1 xs.items) s
    before_is =
        let fits : length (drop 1 zs) ≤ length zs - 1 = omega (arith, length-drop 1 zs) in
        eb ∙ ap (λ z. before_all z s) (take_all (length zs - 1) (drop 1 zs) fits) ∙ ap (λ z. before_all (drop 1 z) s) ez

    first_is : Some first ≡ slice_get xs.items 0
    first_is = at_front ∙ ap (λ z. slice_get z 0) ey

    own_is : {o : Option SignatureTree} → o ≡ own_signature all (declarator_tree all d) first b → o ≡ own_signature all (declarator_tree all core.value) first (before_all (drop 1 xs.items) s)
    own_is h = h ∙ ap (λ z. own_signature all (declarator_tree all z) first b) ed ∙ ap (own_signature all (declarator_tree all core.value) first) before_is

    -- the function that its first suffix declares
    pub own_at : (g : SignatureTree) → Some g ≡ own_signature all (declarator_tree all d) first b → Some g ≡ function_in (declarator_tree all x) s
    own_at g h = function_own all (declarator_tree all core.value) xs.items s first g first_is (own_is h) ∙ sym (ap (λ z. function_in z s) tree_is)

    -- the one that stands within
    pub within_at : (c : Declarator) (b1 : Shape) (o : Option SignatureTree) → None ≡ own_signature all (declarator_tree all d) first b → c ≡ core.value → b1 ≡ before_suffix first b →
        o ≡ function_in (declarator_tree all c) b1 → o ≡ function_in (declarator_tree all x) s
    within_at c b1 o h ec e1 g =
        g ∙ ap (λ z. function_in (declarator_tree all z) b1) ec ∙ ap (function_in (declarator_tree all core.value)) (e1 ∙ ap (before_suffix first) before_is)
        ∙ function_within all (declarator_tree all core.value) xs.items s first first_is (own_is h) ∙ sym (ap (λ z. function_in z s) tree_is)
