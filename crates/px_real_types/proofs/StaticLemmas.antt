-- Whether `static` is among specifiers, one by one.
use Rattle.std.proofs.Common.{◌≡◌, ℕ, ◌+◌, ◌<◌, ◌≤◌, Bool, true, false, if◌then◌else◌, List, ◌∷◌, map, length, drop, get_or, sym, ap, ◌∙◌}
use Rattle.std.proofs.lemmas.List.{drop_more, drop_all}
use Rattle.px_real_declaring.specs.declared.tree.Specifier.{Specifier}
use Rattle.px_real_declarations.specs.DeclarationTree.{SpecifierTree}
use Rattle.px_real_types.specs.Linkage.{is_static, says_static}

module _ (f : Specifier → SpecifierTree) (xs : List Specifier) (i : ℕ) (b : Bool) (so_far : says_static (map f (drop i xs)) ≡ b) where
  one_is : (x : Specifier) → i < length xs → x ≡ get_or xs i x → (if is_static (f x) then true else says_static (map f (drop (i + 1) xs))) ≡ b
  one_is x lt e = sym (ap (λ z. says_static (map f z)) (drop_more xs i x lt ∙ ap (λ z. z ∷ drop (i + 1) xs) (sym e))) ∙ so_far

  pub static_here : (x : Specifier) → i < length xs → x ≡ get_or xs i x → true ≡ is_static (f x) → true ≡ b
  static_here x lt e h = ap (λ (z : Bool). if z then true else says_static (map f (drop (i + 1) xs))) h ∙ one_is x lt e

  pub static_not_here : (x : Specifier) → i < length xs → x ≡ get_or xs i x → false ≡ is_static (f x) → says_static (map f (drop (i + 1) xs)) ≡ b
  static_not_here x lt e h = ap (λ (z : Bool). if z then true else says_static (map f (drop (i + 1) xs))) h ∙ one_is x lt e

  pub none_static : length xs ≤ i → false ≡ b
  none_static le = sym (ap (λ z. says_static (map f z)) (drop_all i xs le)) ∙ so_far
