-- Polynomials in normal form.
use Rattle.std.specs.Prelude.{ℕ, ◌^◌, List, [], ◌∷◌, ◌++◌, length, Bool, true, ◌&&◌, nat_lt, nat_le, if◌then◌else◌}
use Rattle.std.specs.Ordering.{is_lt}
use Rattle.px_terms.specs.Terms.{Term, key_cmp, IsNormal}
use Rattle.px_terms.specs.Polynomials.{Polynomial, most_monomials, most_degree}
use Rattle.px_spelling.specs.Reading.{Reader, ◌>>=◌, ◌<*>◌, done, nothing}
use Rattle.px_spelling.specs.Numbers.{u32_bytes, IsU32, u32_at}
use Rattle.px_spelling.specs.Lists.{list_bytes, IsList, list_at}

-- a coefficient and variables
abbrev pub term_bytes : Term → List ℕ
term_bytes t = u32_bytes t.coefficient ++ list_bytes u32_bytes t.vars

abbrev pub IsTerm : Term → Type 0
IsTerm t = IsU32 t.coefficient × IsList IsU32 most_degree t.vars

abbrev pub term_of : ℕ → List ℕ → Term
term_of coefficient vars = record { coefficient = coefficient; vars = vars }

unfoldable pub term_at : Reader Term
term_at = done term_of <*> u32_at <*> list_at u32_at most_degree

-- a constant and monomials
abbrev pub polynomial_bytes : Polynomial → List ℕ
polynomial_bytes p = u32_bytes p.constant ++ list_bytes term_bytes p.monomials

-- in normal form, and within the limits of a term
abbrev pub IsPolynomialInRange : Polynomial → Type 0
IsPolynomialInRange p = IsU32 p.constant × IsList IsTerm most_monomials p.monomials × IsNormal p.monomials

-- ---- the normal form, as a test

abbrev pub none_below : ℕ → List ℕ → Bool
none_below x [] = true
none_below x (y ∷ ys) = nat_le x y && none_below x ys

abbrev pub none_falls : List ℕ → Bool
none_falls [] = true
none_falls (x ∷ xs) = none_below x xs && none_falls xs

abbrev pub stands_before : List ℕ → List Term → Bool
stands_before k [] = true
stands_before k (t ∷ ts) = is_lt (key_cmp k t.vars) && stands_before k ts

abbrev pub is_monomial : Term → Bool
is_monomial t = nat_lt 0 t.coefficient && (nat_lt t.coefficient (2 ^ 32) && (nat_lt 0 (length t.vars) && none_falls t.vars))

unfoldable pub is_normal : List Term → Bool
is_normal [] = true
is_normal (t ∷ ts) = is_monomial t && (stands_before t.vars ts && is_normal ts)

abbrev pub polynomial_of : ℕ → List Term → Polynomial
polynomial_of constant monomials = record { constant = constant; monomials = monomials }

-- with these monomials, where they are in normal form
abbrev pub polynomial_with : ℕ → List Term → Reader Polynomial
polynomial_with constant monomials = if is_normal monomials then done (polynomial_of constant monomials) else nothing

abbrev pub monomials_at : ℕ → Reader Polynomial
monomials_at constant = list_at term_at most_monomials >>= polynomial_with constant

unfoldable pub polynomial_at : Reader Polynomial
polynomial_at = u32_at >>= monomials_at

-- ---- what holds polynomials

-- how polynomials are spelled in what holds them: their bytes, those that have a spelling, and what is read
pub record PolynomialSpelling : Type 1 where
  pub bytes_of : Polynomial → List ℕ
  pub fits : Polynomial → Type 0
  pub at : Reader Polynomial

-- each in full
abbrev pub in_full : PolynomialSpelling
in_full = record { bytes_of = polynomial_bytes; fits = IsPolynomialInRange; at = polynomial_at }

-- none
abbrev pub no_polynomials : PolynomialSpelling
no_polynomials = record { bytes_of = λ p. []; fits = λ p. ⊥; at = nothing }
