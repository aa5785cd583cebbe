-- Polynomials modulo 2^32 in normal form.
use Rattle.std.specs.Prelude.{◌≡◌, ℕ, ◌+◌, ◌-◌, ◌*◌, ◌%◌, ◌^◌, ◌<◌, ◌≤◌, List, [], ◌∷◌, ◌++◌, ◌⊎◌, All, Any, length, map, filter, Bool, true, false}
use Rattle.px_terms.specs.Terms.{Term, ordered, value_at, coefficient_at, IsNormal, gathered}

-- a constant and monomials
pub record Polynomial : Type 0 where
  pub constant : ℕ
  pub monomials : List Term

-- the constant, as a term without variables, and the monomials
abbrev pub terms_of : Polynomial → List Term
terms_of p = record { coefficient = p.constant; vars = [] } ∷ p.monomials

-- whether there are variables
abbrev pub has_variables : List ℕ → Bool
has_variables [] = false
has_variables (x ∷ xs) = true

-- the terms that have variables
abbrev pub with_variables : List Term → List Term
with_variables ts = filter (λ t. has_variables t.vars) ts

-- the polynomial that a sum of any terms is
abbrev pub normal_form : List Term → Polynomial
normal_form ts = record { constant = coefficient_at [] ts % 2 ^ 32; monomials = gathered (with_variables (map ordered ts)) }

-- a constant is a word, and the monomials are in normal form
pub record IsPolynomial (p : Polynomial) : Type 0 where
  pub constant : p.constant < 2 ^ 32
  pub monomials : IsNormal p.monomials

-- how many monomials a polynomial has at most, and of which degree
abbrev pub most_monomials : ℕ
most_monomials = 16

abbrev pub most_degree : ℕ
most_degree = 4

pub record IsWithinLimits (p : Polynomial) : Type 0 where
  pub monomials : length p.monomials ≤ most_monomials
  pub degrees : All (λ t. length t.vars ≤ most_degree) p.monomials

-- too many monomials, or one of too high a degree
abbrev pub IsTooLong : Polynomial → Type 0
IsTooLong p = (most_monomials < length p.monomials) ⊎ Any (λ t. most_degree < length t.vars) p.monomials

-- the value of a polynomial where each variable has a word
abbrev pub value_of : (ℕ → ℕ) → Polynomial → ℕ
value_of v p = (p.constant + value_at v p.monomials) % 2 ^ 32

-- the term whose value makes 0 with that of another
abbrev pub negated : Term → Term
negated t = record { coefficient = 2 ^ 32 - t.coefficient; vars = t.vars }

-- the variables of both stand in the product
abbrev pub term_product : Term → Term → Term
term_product s t = record { coefficient = s.coefficient * t.coefficient; vars = t.vars ++ s.vars }

-- each product of a term of the first sum and one of the second
abbrev pub pairs : List Term → List Term → List Term
pairs [] ts = []
pairs (s ∷ ss) ts = map (term_product s) ts ++ pairs ss ts

abbrev pub sum_of : Polynomial → Polynomial → Polynomial
sum_of p q = normal_form (terms_of p ++ terms_of q)

abbrev pub difference_of : Polynomial → Polynomial → Polynomial
difference_of p q = normal_form (terms_of p ++ map negated (terms_of q))

abbrev pub product_of : Polynomial → Polynomial → Polynomial
product_of p q = normal_form (pairs (terms_of p) (terms_of q))

-- What makes it a normal form: it is one of its kind, has the value of the terms under each valuation,
-- and is the only one with its coefficients.
pub record NormalForms : Type 0 where
  pub is_polynomial : (ts : List Term) → IsPolynomial (normal_form ts)
  pub same_value : (ts : List Term) (v : ℕ → ℕ) → value_of v (normal_form ts) ≡ value_at v ts % 2 ^ 32
  pub same_coefficients : (ts : List Term) (k : List ℕ) → coefficient_at k (terms_of (normal_form ts)) % 2 ^ 32 ≡ coefficient_at k (map ordered ts) % 2 ^ 32
  pub unique : (p q : Polynomial) → IsPolynomial p → IsPolynomial q
      → ((k : List ℕ) → coefficient_at k (terms_of p) % 2 ^ 32 ≡ coefficient_at k (terms_of q) % 2 ^ 32) → p ≡ q
  pub stays : (p : Polynomial) → IsPolynomial p → normal_form (terms_of p) ≡ p
