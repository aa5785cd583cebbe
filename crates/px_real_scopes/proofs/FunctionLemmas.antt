-- What parameters say, by their lists.
use Rattle.std.proofs.Common.{◌≡◌, ◌&&◌, true, false, List, [], ◌∷◌, length, get_or, map, Some, None, if◌then◌else◌, ap, ap₂, sym, arith}
use Rattle.px_real_declarations.specs.DeclarationTree.{SpecifierTree, says_type, DeclaredTree, declaration}
use Rattle.px_real_types.specs.Declarators.{is_nothing}
use Rattle.px_real_scopes.specs.Knowing.{if_type}
use Rattle.px_real_scopes.specs.Functions.{is_void_word, is_void}

-- one specifier and one declarator
pub void_is : {A B : Type 0} (f : A → SpecifierTree) (g : B → DeclaredTree) (ss : List A) (xs : List B) (s : A) (x : B) → length ss ≡ 1 → length xs ≡ 1 → s ≡ get_or ss 0 s → x ≡ get_or xs 0 x →
    is_void (declaration (map f ss) (map g xs)) ≡ (is_void_word (f s) && is_nothing (g x).declarator)
void_is f g [] xs s x a b hs hx = absurd cc
void_is f g (y ∷ z ∷ ss) xs s x a b hs hx = absurd (omega (arith, a))
void_is f g (y ∷ []) [] s x a b hs hx = absurd cc
void_is f g (y ∷ []) (z ∷ w ∷ xs) s x a b hs hx = absurd (omega (arith, b))
void_is f g (y ∷ []) (z ∷ []) s x a b hs hx = ap₂ (λ u v. is_void_word (f u) && is_nothing (g v).declarator) (sym hs) (sym hx)

-- ---- specifiers that say a type

pub if_yes : (s : SpecifierTree) → says_type s ≡ true → if_type s ≡ Some s
if_yes s h = ap (λ b. if b then Some s else None) h

pub if_no : (s : SpecifierTree) → says_type s ≡ false → if_type s ≡ None
if_no s h = ap (λ b. if b then Some s else None) h
