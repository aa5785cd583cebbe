-- Sums of terms, and their normal form modulo 2^32.
use Rattle.std.specs.Prelude.{◌≡◌, ℕ, ◌+◌, ◌*◌, ◌%◌, ◌^◌, ◌<◌, List, [], ◌∷◌, All, length, fold, min, max, nat_eq, cond, ⊤}
use Rattle.std.specs.List.Sorted.{IsNonDecreasing}
use Rattle.std.specs.Ordering.{nat_cmp, ordering_then, is_eq}
use Rattle.std.specs.Cmp.Lexicographic.{slice_cmp}
use Rattle.std.specs.declared.cmp.Ordering.{Ordering}
use Rattle.std.specs.declared.cmp.Ordering.TheVariants.{Less, Equal, Greater}

-- a coefficient, and the variables of a product by their numbers
pub record Term : Type 0 where
  pub coefficient : ℕ
  pub vars : List ℕ

-- a variable put among others that are in order: the greater one is carried on
abbrev pub put_among : List ℕ → ℕ → List ℕ
put_among [] x = x ∷ []
put_among (y ∷ ys) x = min y x ∷ put_among ys (max y x)

-- the variables in order, repeats kept
abbrev pub in_order : List ℕ → List ℕ
in_order xs = fold put_among [] xs

-- a term with its variables in order
abbrev pub ordered : Term → Term
ordered t = record { coefficient = t.coefficient; vars = in_order t.vars }

-- by degree, and then by the variables in order
abbrev pub key_cmp : List ℕ → List ℕ → Ordering
key_cmp a b = ordering_then (nat_cmp (length a) (length b)) (slice_cmp nat_cmp a b)

-- the product of the values of some variables
abbrev pub product_at : (ℕ → ℕ) → List ℕ → ℕ
product_at v [] = 1
product_at v (x ∷ xs) = v x * product_at v xs

-- the value of a sum of terms, as it is before it is wrapped
abbrev pub value_at : (ℕ → ℕ) → List Term → ℕ
value_at v [] = 0
value_at v (t ∷ ts) = t.coefficient * product_at v t.vars + value_at v ts

-- the sum of the coefficients that stand with these variables, as it is before it is wrapped
abbrev pub coefficient_at : List ℕ → List Term → ℕ
coefficient_at k [] = 0
coefficient_at k (t ∷ ts) = cond (is_eq (key_cmp k t.vars)) t.coefficient 0 + coefficient_at k ts

-- these variables stand before those of each term
abbrev pub Before : List ℕ → List Term → Type 0
Before k [] = ⊤
Before k (t ∷ ts) = (key_cmp k t.vars ≡ Less) × Before k ts

-- coefficients are words other than 0, and the variables rise from term to term, so that none stand twice
abbrev pub IsRising : List Term → Type 0
IsRising [] = ⊤
IsRising (t ∷ ts) = (0 < t.coefficient) × (t.coefficient < 2 ^ 32) × Before t.vars ts × IsRising ts

-- a term has variables, and they are in order
abbrev pub HasOrderedVariables : Term → Type 0
HasOrderedVariables t = (0 < length t.vars) × IsNonDecreasing t.vars

-- monomials in normal form: each once, by rising degree and then by their variables, with a
-- coefficient other than 0 and variables in order
pub record IsNormal (ts : List Term) : Type 0 where
  pub rising : IsRising ts
  pub variables : All HasOrderedVariables ts

-- a term in front, unless its coefficient is 0 modulo 2^32
abbrev pub put_term : ℕ → List ℕ → List Term → List Term
put_term c k ts = cond (nat_eq (c % 2 ^ 32) 0) ts (record { coefficient = c % 2 ^ 32; vars = k } ∷ ts)

-- a term beside the first of others, by the order of their variables; `later` is the term put among
-- those after the first
abbrev pub place_term : Ordering → Term → Term → List Term → List Term → List Term
place_term Less t s ss later = put_term t.coefficient t.vars (s ∷ ss)
place_term Equal t s ss later = put_term (t.coefficient + s.coefficient) s.vars ss
place_term Greater t s ss later = s ∷ later

-- a term added to rising terms
abbrev pub add_term : Term → List Term → List Term
add_term t [] = put_term t.coefficient t.vars []
add_term t (s ∷ ss) = place_term (key_cmp t.vars s.vars) t s ss (add_term t ss)

-- the terms gathered: those with the same variables are one, and none is 0
abbrev pub gathered : List Term → List Term
gathered [] = []
gathered (t ∷ ts) = add_term t (gathered ts)
