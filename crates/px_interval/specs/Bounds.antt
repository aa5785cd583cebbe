-- Bounds on one variable, by the places of words in their signed order: the place of -2^31 is 0, and
-- that of 2^31 - 1 is 2^32 - 1.
use Rattle.std.specs.Prelude.{ℕ, ◌+◌, ◌-◌, ◌%◌, ◌^◌, ◌<◌, ◌≤◌, List, [], ◌∷◌, Bool, true, false, Option, Some, None, cond, nat_eq}
use Rattle.px_terms.specs.Terms.{Term}
use Rattle.px_terms.specs.declared.conjuncts.Conj.{Conj}
use Rattle.px_terms.specs.declared.conjuncts.Conj.TheVariants.{Equal, Unequal, Less, AtMost, SamePlace, OtherPlace, Written, Unwritten, Quotient}
use Rattle.px_interval.specs.declared.bounds.Form.{Form}
use Rattle.px_interval.specs.declared.bounds.Form.TheVariants as form
use Rattle.px_interval.specs.declared.bounds.Side.{Side}
use Rattle.px_interval.specs.declared.bounds.Side.TheVariants as side
use Rattle.px_interval.specs.declared.bounds.Bound.{Bound}

-- the place of a word
abbrev pub place : ℕ → ℕ
place n = (n + 2 ^ 31) % 2 ^ 32

-- ---- forms of polynomials

abbrev pub unit_among : ℕ → List ℕ → Form
unit_among c [] = form.Other
unit_among c (x ∷ []) = cond (nat_eq c 1) (form.Plus x) (cond (nat_eq c (2 ^ 32 - 1)) (form.Minus x) form.Other)
unit_among c (x ∷ y ∷ ys) = form.Other

-- the term as x or -x
abbrev pub unit_of : Term → Form
unit_of t = unit_among t.coefficient t.vars

abbrev pub form_of : List Term → Form
form_of [] = form.Constant
form_of (s ∷ []) = unit_of s
form_of (s ∷ t ∷ ts) = form.Other

abbrev pub side_of : ℕ → Form → Side
side_of c form.Constant = side.Constant (place c)
side_of c (form.Plus x) = cond (nat_eq c 0) (side.Variable x) side.Other
side_of c (form.Minus x) = side.Other
side_of c form.Other = side.Other

-- ---- bounds

abbrev pub IsFrom : ℕ → ℕ → ℕ → Type 0
IsFrom low end n = (low ≤ n) × (n < end)

abbrev pub IsAllowed : Bool → ℕ → ℕ → ℕ → Type 0
IsAllowed true low end n = IsFrom low end n
IsAllowed false low end n = ¬ IsFrom low end n

-- the bound leaves the variable the place n
abbrev pub Allows : Bound → ℕ → Type 0
Allows b n = IsAllowed b.inside b.low b.end n

abbrev pub bound : ℕ → Bool → ℕ → ℕ → Option Bound
bound x inside low end = Some (record { variable = x; inside = inside; low = low; end = end })

-- x + c is 0 at the word -c, and -x + c at the word c
abbrev pub equal_bound : ℕ → Bool → Form → Option Bound
equal_bound c inside form.Constant = None
equal_bound c inside (form.Plus x) = bound x inside (place ((2 ^ 32 - c % 2 ^ 32) % 2 ^ 32)) (place ((2 ^ 32 - c % 2 ^ 32) % 2 ^ 32) + 1)
equal_bound c inside (form.Minus x) = bound x inside (place c) (place c + 1)
equal_bound c inside form.Other = None

abbrev pub less_bound : Side → Side → Option Bound
less_bound (side.Constant c) (side.Constant d) = None
less_bound (side.Constant c) (side.Variable x) = bound x false 0 (c + 1)
less_bound (side.Constant c) side.Other = None
less_bound (side.Variable x) (side.Constant c) = bound x false c (2 ^ 32)
less_bound (side.Variable x) (side.Variable y) = None
less_bound (side.Variable x) side.Other = None
less_bound side.Other b = None

abbrev pub at_most_bound : Side → Side → Option Bound
at_most_bound (side.Constant c) (side.Constant d) = None
at_most_bound (side.Constant c) (side.Variable x) = bound x true c (2 ^ 32)
at_most_bound (side.Constant c) side.Other = None
at_most_bound (side.Variable x) (side.Constant c) = bound x true 0 (c + 1)
at_most_bound (side.Variable x) (side.Variable y) = None
at_most_bound (side.Variable x) side.Other = None
at_most_bound side.Other b = None

-- the bound that a conjunct is, where it bounds one variable
abbrev pub bound_of : Conj → Option Bound
bound_of (Equal p) = equal_bound p.constant true (form_of p.monomials)
bound_of (Unequal p) = equal_bound p.constant false (form_of p.monomials)
bound_of (Less p q) = less_bound (side_of p.constant (form_of p.monomials)) (side_of q.constant (form_of q.monomials))
bound_of (AtMost p q) = at_most_bound (side_of p.constant (form_of p.monomials)) (side_of q.constant (form_of q.monomials))
bound_of (SamePlace a b) = None
bound_of (OtherPlace a b) = None
bound_of (Written x) = None
bound_of (Unwritten x) = None
bound_of (Quotient x p q) = None
