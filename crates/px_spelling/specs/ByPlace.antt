-- Polynomials by their places in a list.
use Rattle.std.specs.Prelude.{◌≡◌, ℕ, suc, List, [], ◌∷◌, Option, Some, None, option_and_then, slice_get, length, ◌<◌, filter, cond, Bool, false, not, nat_eq, ⊤}
use Rattle.std.specs.List.{AllByRecursion, Contains}
use Rattle.std.specs.List.Sorted.{IsSorted}
use Rattle.std.specs.Option.{option_map, option_cmp, option_eq}
use Rattle.std.specs.Ordering.{nat_cmp, ordering_then, is_eq}
use Rattle.std.specs.Cmp.{IsTotalOrder}
use Rattle.std.specs.Cmp.Lexicographic.{slice_cmp}
use Rattle.std.specs.declared.cmp.Ordering.{Ordering}
use Rattle.std.specs.declared.cmp.Ordering.TheVariants.{Equal}
use Rattle.px_terms.specs.Terms.{Term}
use Rattle.px_terms.specs.Polynomials.{Polynomial}
use Rattle.px_spelling.specs.Reading.{Reader, ◌>>=◌, done, nothing}
use Rattle.px_spelling.specs.Numbers.{u32_bytes, IsU32, u32_at}
use Rattle.px_spelling.specs.Polynomials.{PolynomialSpelling}

-- ---- an order of polynomials, for finding them

-- by coefficient, and then by variables
abbrev pub term_cmp : Term → Term → Ordering
term_cmp s t = ordering_then (nat_cmp s.coefficient t.coefficient) (slice_cmp nat_cmp s.vars t.vars)

-- by constant, and then by monomials
abbrev pub polynomial_cmp : Polynomial → Polynomial → Ordering
polynomial_cmp p q = ordering_then (nat_cmp p.constant q.constant) (slice_cmp term_cmp p.monomials q.monomials)

abbrev pub is_same : Polynomial → Polynomial → Bool
is_same p q = is_eq (polynomial_cmp p q)

-- a total order, in which only the same are equal
pub record OrdersPolynomials : Type 0 where
  pub total : IsTotalOrder polynomial_cmp
  pub only_same : (p q : Polynomial) → polynomial_cmp p q ≡ Equal → p ≡ q

-- ---- lists of polynomials

-- each once, in the order in which they are first there
abbrev pub distinct : List Polynomial → List Polynomial
distinct [] = []
distinct (p ∷ ps) = p ∷ filter (λ q. not (is_same p q)) (distinct ps)

-- no two are the same
abbrev pub Differ : List Polynomial → Type 0
Differ [] = ⊤
Differ (p ∷ ps) = AllByRecursion (λ q. is_same p q ≡ false) ps × Differ ps

-- the first place where it is, if it is there
abbrev pub place_in : List Polynomial → Polynomial → Option ℕ
place_in [] p = None
place_in (q ∷ qs) p = cond (is_same q p) (Some 0) (option_map suc (place_in qs p))

-- ---- the spelling

-- the place as a number
abbrev pub found_bytes : Option ℕ → List ℕ
found_bytes None = []
found_bytes (Some n) = u32_bytes n

-- there is a place, and four bytes hold it
abbrev pub IsFound : Option ℕ → Type 0
IsFound None = ⊥
IsFound (Some n) = IsU32 n

abbrev pub this_one : Option Polynomial → Reader Polynomial
this_one None = nothing
this_one (Some p) = done p

-- the polynomial at a place
abbrev pub named_at : List Polynomial → ℕ → Reader Polynomial
named_at terms place = this_one (slice_get terms place)

-- each by its place in this list
abbrev pub by_place : List Polynomial → PolynomialSpelling
by_place terms = record { bytes_of = λ p. found_bytes (place_in terms p); fits = λ p. IsFound (place_in terms p); at = u32_at >>= named_at terms }

-- ---- finding them

-- what stands at a place, against a polynomial; a place beyond the list is before each
abbrev pub order_at : List Polynomial → Polynomial → ℕ → Ordering
order_at terms p place = option_cmp polynomial_cmp (slice_get terms place) (Some p)

-- places by what stands there, and those of the same polynomial in their order
abbrev pub place_cmp : List Polynomial → ℕ → ℕ → Ordering
place_cmp terms i j = ordering_then (option_cmp polynomial_cmp (slice_get terms i) (slice_get terms j)) (nat_cmp i j)

-- each place of a list, in that order
pub record IsIndex (terms : List Polynomial) (places : List ℕ) : Type 0 where
  pub sorted : IsSorted (place_cmp terms) places
  pub all : (n : ℕ) → n < length terms → Contains places n

-- whether what stands at a place stands at none before it
abbrev pub is_first_at : List Polynomial → ℕ → Bool
is_first_at terms place = option_eq nat_eq (option_and_then (place_in terms) (slice_get terms place)) (Some place)
