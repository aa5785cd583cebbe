-- Forms of polynomials, and the words of bounded variables.
use Rattle.std.proofs.Common.{◌≡◌, ◌≢◌, ◌↔◌, inl, inr, ℕ, suc, ◌-◌, ◌^◌, ◌<◌, ◌≤◌, List, [], ◌∷◌, length, refl, ap, subst, arith}
use Rattle.std.specs.Prelude.{pos, negsuc, ◌+ℤ◌, ◌<ℤ◌, ◌≤ℤ◌}
use Rattle.std.specs.Int.{w32}
use Rattle.std.proofs.lemmas.Bool.{cases_eq, cases_lt, eq-eqb, ne_eqb}
use Rattle.std.proofs.Math.Facts.{to_z_pos, to_z-neg}
use Rattle.std.proofs.lemmas.Int.{ints}
use Rattle.px_terms.specs.Words.{signed}
use Rattle.px_terms.specs.Terms.{Term}
use Rattle.px_interval.specs.declared.bounds.Form.{Form}
use Rattle.px_interval.specs.declared.bounds.Form.TheVariants.{Constant, Plus, Minus, Other}
use Rattle.px_interval.specs.Bounds.{place, unit_among, form_of}

-- a number as a term, with the variable x
abbrev pub unit : ℕ → ℕ → Term
unit a x = record { coefficient = a; vars = x ∷ [] }

-- what the terms are where they have the form
abbrev pub Has : List Term → Form → Type 0
Has ts Constant = ts ≡ []
Has ts (Plus x) = ts ≡ unit 1 x ∷ []
Has ts (Minus x) = ts ≡ unit (2 ^ 32 - 1) x ∷ []
Has ts Other = (ts ≢ []) × ((x : ℕ) → ts ≢ unit 1 x ∷ []) × ((x : ℕ) → ts ≢ unit (2 ^ 32 - 1) x ∷ [])

abbrev first_coefficient : List Term → ℕ
first_coefficient [] = 0
first_coefficient (t ∷ ts) = t.coefficient

abbrev first_number : List ℕ → ℕ
first_number [] = 0
first_number (x ∷ xs) = x

abbrev first_variable : List Term → ℕ
first_variable [] = 0
first_variable (t ∷ ts) = first_number t.vars

pub unit_coefficient : (a x b y : ℕ) → unit a x ∷ [] ≡ unit b y ∷ [] → a ≡ b
unit_coefficient a x b y e = ap first_coefficient e

pub unit_variable : (a x b y : ℕ) → unit a x ∷ [] ≡ unit b y ∷ [] → x ≡ y
unit_variable a x b y e = ap first_variable e

pub not_unit : (x y : ℕ) → ¬ (unit (2 ^ 32 - 1) x ∷ [] ≡ unit 1 y ∷ [])
not_unit x y e = let f = unit_coefficient (2 ^ 32 - 1) x 1 y e in omega arith

abbrev first_length : List Term → ℕ
first_length [] = 0
first_length (t ∷ ts) = length t.vars

other_length : (k : ℕ) (xs : List ℕ) (b y : ℕ) → length xs ≢ 1 → ¬ (record { coefficient = k; vars = xs } ∷ [] ≡ unit b y ∷ [])
other_length k xs b y d e = d (ap first_length e)

other_unit : (k x : ℕ) → k ≢ 1 → k ≢ 2 ^ 32 - 1 → Has (unit k x ∷ []) Other
other_unit k x a b = (λ e. cc, λ y e. a (unit_coefficient k x 1 y e), λ y e. b (unit_coefficient k x (2 ^ 32 - 1) y e))

one_has : (k x : ℕ) → Has (unit k x ∷ []) (unit_among k (x ∷ []))
one_has k x = elim (cases_eq k 1) [
  | inl e ↦ rw (eq-eqb k 1 e) (ap (λ n. unit n x ∷ []) e)
  | inr d ↦ elim (cases_eq k (2 ^ 32 - 1)) [
    | inl e ↦ rw (ne_eqb k 1 d) (rw (eq-eqb k (2 ^ 32 - 1) e) (ap (λ n. unit n x ∷ []) e))
    | inr f ↦ rw (ne_eqb k 1 d) (rw (ne_eqb k (2 ^ 32 - 1) f) (other_unit k x d f))
  ]
]

among_has : (k : ℕ) (xs : List ℕ) → Has (record { coefficient = k; vars = xs } ∷ []) (unit_among k xs)
among_has k [] = (λ e. cc, λ y e. other_length k [] 1 y (omega arith) e, λ y e. other_length k [] (2 ^ 32 - 1) y (omega arith) e)
among_has k (x ∷ []) = one_has k x
among_has k (x ∷ y ∷ ys) = (λ e. cc, λ z e. other_length k (x ∷ y ∷ ys) 1 z (omega arith) e, λ z e. other_length k (x ∷ y ∷ ys) (2 ^ 32 - 1) z (omega arith) e)

pub has_form : (ts : List Term) → Has ts (form_of ts)
has_form [] = refl
has_form (s ∷ []) = among_has s.coefficient s.vars
has_form (s ∷ t ∷ ts) = (λ e. cc, λ y e. cc, λ y e. cc)

-- ---- places

low_word : (a : ℕ) → a < 2 ^ 31 → signed a ≡ pos a
low_word a l = to_z_pos w32 l

high_word : (a : ℕ) → 2 ^ 31 ≤ a → a < 2 ^ 32 → signed a ≡ negsuc (2 ^ 32 - 1 - a)
high_word a l h =
    let e : 2 ^ 32 - suc (2 ^ 32 - 1 - a) ≡ a = omega arith in
    subst (λ k. signed k ≡ negsuc (2 ^ 32 - 1 - a)) e (to_z-neg w32 (2 ^ 32 - 1 - a) (omega arith))

-- a word as a signed number, by its place
signed_place : (a : ℕ) → a < 2 ^ 32 → signed a +ℤ pos (2 ^ 31) ≡ pos (place a)
signed_place a h = elim (cases_lt a (2 ^ 31)) [
  | inl l ↦ (let e = low_word a l in omega (arith, ints))
  | inr l ↦ (let e = high_word a l h in omega (arith, ints))
]

pub signed_less : (a b : ℕ) → a < 2 ^ 32 → b < 2 ^ 32 → signed a <ℤ signed b ↔ place a < place b
signed_less a b h k =
    let e = signed_place a h in
    let f = signed_place b k in
    (λ l. omega (arith, ints), λ l. omega (arith, ints))

pub signed_at_most : (a b : ℕ) → a < 2 ^ 32 → b < 2 ^ 32 → signed a ≤ℤ signed b ↔ place a ≤ place b
signed_at_most a b h k =
    let e = signed_place a h in
    let f = signed_place b k in
    (λ l. omega (arith, ints), λ l. omega (arith, ints))
