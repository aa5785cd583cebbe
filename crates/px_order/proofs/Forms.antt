-- Polynomials that are a variable, or the difference of two.
use Rattle.std.proofs.Common.{◌≡◌, ◌≢◌, inl, inr, ℕ, ◌-◌, ◌^◌, ◌<◌, ◌≤◌, List, [], ◌∷◌, length, get_or, sym, ap, ◌∙◌, arith}
use Rattle.std.specs.Prelude.{Option, Some, None, MatchOption}
use Rattle.px_terms.specs.Terms.{Term}
use Rattle.px_terms.specs.Polynomials.{Polynomial}
use Rattle.px_terms.specs.Rules.{IsVariable, IsDifference}
use Rattle.px_order.specs.Comparisons.{unit}

-- ---- terms

pub first_same : (s t : Term) (ss ts : List Term) → s ∷ ss ≡ t ∷ ts → s ≡ t
first_same s t ss ts e = cc

pub second_same : (s t s2 t2 : Term) → s ∷ s2 ∷ [] ≡ t ∷ t2 ∷ [] → s2 ≡ t2
second_same s t s2 t2 e = cc

first_variable : List ℕ → ℕ
first_variable [] = 0
first_variable (x ∷ xs) = x

pub unit_variable : (a x y : ℕ) → unit a x ≡ unit a y → x ≡ y
unfolding first_variable
unit_variable a x y e = ap (λ (t : Term). first_variable t.vars) e

pub not_negated : (x y : ℕ) → unit 1 x ≢ unit (2 ^ 32 - 1) y
not_negated x y e = let f : 1 ≡ 2 ^ 32 - 1 = ap (λ (t : Term). t.coefficient) e in absurd (omega arith)

-- ---- lists of one and two

pub one_item : {X : Type 0} (xs : List X) (x : X) → 1 ≤ length xs → length xs < 2 → x ≡ get_or xs 0 x → xs ≡ x ∷ []
one_item [] x l m e = absurd (omega arith)
one_item (y ∷ []) x l m e = ap (λ z. z ∷ []) (sym e)
one_item (y ∷ z ∷ zs) x l m e = absurd (omega arith)

pub two_items : {X : Type 0} (xs : List X) (x y : X) → 2 ≤ length xs → length xs < 3 → x ≡ get_or xs 0 x → y ≡ get_or xs 1 y → xs ≡ x ∷ y ∷ []
two_items [] x y l m e f = absurd (omega arith)
two_items (z ∷ []) x y l m e f = absurd (omega arith)
two_items (z ∷ w ∷ []) x y l m e f = ap (λ a. a ∷ w ∷ []) (sym e) ∙ ap (λ b. x ∷ b ∷ []) (sym f)
two_items (z ∷ w ∷ v ∷ vs) x y l m e f = absurd (omega arith)

-- ---- a variable alone

pub one_variable : (p : Polynomial) (x y : ℕ) → IsVariable x p → IsVariable y p → x ≡ y
one_variable p x y h k = unit_variable 1 x y (first_same (unit 1 x) (unit 1 y) [] [] (sym h.1 ∙ k.1))

-- by the term that the polynomial is
pub variable_is : (p : Polynomial) (t : Term) (o : Option ℕ) → p.constant ≡ 0 → p.monomials ≡ t ∷ []
    → MatchOption o ((x : ℕ) → t ≢ unit 1 x) (λ x. t ≡ unit 1 x) → MatchOption o ((x : ℕ) → ¬ IsVariable x p) (λ x. IsVariable x p)
variable_is p t None z e h = λ x k. h x (first_same t (unit 1 x) [] [] (sym e ∙ k.1))
variable_is p t (Some x) z e h = (z, e ∙ ap (λ s. s ∷ []) h)

-- ---- a difference

pub one_difference : (p : Polynomial) (x y a b : ℕ) → IsDifference x y p → IsDifference a b p → (x ≡ a) × (y ≡ b)
one_difference p x y a b (z, inl e) (w, inl f) = (
  unit_variable 1 x a (first_same (unit 1 x) (unit 1 a) _ _ (sym e ∙ f)),
  unit_variable (2 ^ 32 - 1) y b (second_same (unit 1 x) (unit 1 a) (unit (2 ^ 32 - 1) y) (unit (2 ^ 32 - 1) b) (sym e ∙ f)),
)
one_difference p x y a b (z, inl e) (w, inr f) = absurd (not_negated x b (first_same (unit 1 x) (unit (2 ^ 32 - 1) b) _ _ (sym e ∙ f)))
one_difference p x y a b (z, inr e) (w, inl f) = absurd (not_negated a y (first_same (unit 1 a) (unit (2 ^ 32 - 1) y) _ _ (sym f ∙ e)))
one_difference p x y a b (z, inr e) (w, inr f) = (
  unit_variable 1 x a (second_same (unit (2 ^ 32 - 1) y) (unit (2 ^ 32 - 1) b) (unit 1 x) (unit 1 a) (sym e ∙ f)),
  unit_variable (2 ^ 32 - 1) y b (first_same (unit (2 ^ 32 - 1) y) (unit (2 ^ 32 - 1) b) _ _ (sym e ∙ f)),
)

-- the terms as x and -y
abbrev pub ArePositiveFirst : Term → Term → ℕ → ℕ → Type 0
ArePositiveFirst s t x y = (s ≡ unit 1 x) × (t ≡ unit (2 ^ 32 - 1) y)

pub difference_first : (p : Polynomial) (s t : Term) (x y : ℕ) → p.constant ≡ 0 → p.monomials ≡ s ∷ t ∷ [] → ArePositiveFirst s t x y → IsDifference x y p
difference_first p s t x y z e (f, g) = (z, inl (e ∙ ap (λ a. a ∷ t ∷ []) f ∙ ap (λ b. unit 1 x ∷ b ∷ []) g))

-- by the two terms, where they aren't x and -y
pub difference_second : (p : Polynomial) (s t : Term) (o : Option (ℕ × ℕ)) → p.constant ≡ 0 → p.monomials ≡ s ∷ t ∷ []
    → ((x y : ℕ) → s ≡ unit 1 x → t ≢ unit (2 ^ 32 - 1) y)
    → MatchOption o ((x y : ℕ) → t ≡ unit 1 x → s ≢ unit (2 ^ 32 - 1) y) (λ d. ArePositiveFirst t s d.0 d.1)
    → MatchOption o ((x y : ℕ) → ¬ IsDifference x y p) (λ d. IsDifference d.0 d.1 p)
difference_second p s t None z e h k = λ x y d. none x y d
  where
    none : (x y : ℕ) → ¬ IsDifference x y p
    none x y (w, inl f) = h x y (first_same s (unit 1 x) _ _ (sym e ∙ f)) (second_same s (unit 1 x) t (unit (2 ^ 32 - 1) y) (sym e ∙ f))
    none x y (w, inr f) = k x y (second_same s (unit (2 ^ 32 - 1) y) t (unit 1 x) (sym e ∙ f)) (first_same s (unit (2 ^ 32 - 1) y) _ _ (sym e ∙ f))
difference_second p s t (Some (x, y)) z e h (f, g) = (z, inr (e ∙ ap (λ a. a ∷ t ∷ []) g ∙ ap (λ b. unit (2 ^ 32 - 1) y ∷ b ∷ []) f))
