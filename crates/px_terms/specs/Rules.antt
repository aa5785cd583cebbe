-- What the rule of each kind of domain rules out. Each rule looks at the conjuncts of its own form
-- alone, and rules a list out where these have no solution.
use Rattle.std.specs.Prelude.{◌≡◌, ℕ, zero, suc, ◌-◌, ◌+◌, ◌%◌, ◌^◌, ◌≤◌, ℤ, ◌<ℤ◌, ◌≤ℤ◌, ◌⊎◌, List, [], ◌∷◌, All, length, FitsSigned, ⊤}
use Rattle.std.specs.Int.{w32}
use Rattle.px_terms.specs.Terms.{value_at}
use Rattle.px_terms.specs.Polynomials.{Polynomial}
use Rattle.px_terms.specs.Conjuncts.{IsUnit, IsTrueUnder}
use Rattle.px_terms.specs.declared.types.Value.TheVariants.{Word}
use Rattle.px_terms.specs.declared.conjuncts.Conj.{Conj}
use Rattle.px_terms.specs.declared.conjuncts.Conj.TheVariants.{Equal, Unequal, Less, AtMost, SamePlace, OtherPlace, Written, Unwritten, Quotient}

-- ---- forms of polynomials

-- a constant
abbrev pub IsConstant : Polynomial → Type 0
IsConstant p = p.monomials ≡ []

-- the variable x alone
abbrev pub IsVariable : ℕ → Polynomial → Type 0
IsVariable x p = (p.constant ≡ 0) × (p.monomials ≡ record { coefficient = 1; vars = x ∷ [] } ∷ [])

-- x + c or -x + c
abbrev pub IsUnitSum : ℕ → Polynomial → Type 0
IsUnitSum x p = (a : ℕ) × IsUnit a × (p.monomials ≡ record { coefficient = a; vars = x ∷ [] } ∷ [])

-- x - y
abbrev pub IsDifference : ℕ → ℕ → Polynomial → Type 0
IsDifference x y p = (p.constant ≡ 0) ×
    ((p.monomials ≡ record { coefficient = 1; vars = x ∷ [] } ∷ record { coefficient = 2 ^ 32 - 1; vars = y ∷ [] } ∷ [])
    ⊎ (p.monomials ≡ record { coefficient = 2 ^ 32 - 1; vars = y ∷ [] } ∷ record { coefficient = 1; vars = x ∷ [] } ∷ []))

-- ---- interval

-- the conjunct bounds x alone: `Equal` or `Unequal` of x + c or -x + c, or an order between x and a constant
abbrev pub BoundsVariable : ℕ → Conj → Type 0
BoundsVariable x (Equal p) = IsUnitSum x p
BoundsVariable x (Unequal p) = IsUnitSum x p
BoundsVariable x (Less p q) = (IsVariable x p × IsConstant q) ⊎ (IsConstant p × IsVariable x q)
BoundsVariable x (AtMost p q) = (IsVariable x p × IsConstant q) ⊎ (IsConstant p × IsVariable x q)
BoundsVariable x (SamePlace a b) = ⊥
BoundsVariable x (OtherPlace a b) = ⊥
BoundsVariable x (Written y) = ⊥
BoundsVariable x (Unwritten y) = ⊥
BoundsVariable x (Quotient y p q) = ⊥

-- the word z is within all bounds of x
abbrev pub IsWithinBounds : List Conj → ℕ → ℤ → Type 0
IsWithinBounds conjuncts x z = All (λ c. BoundsVariable x c → IsTrueUnder (λ y. Word z) c) conjuncts

-- some variable has no word of 32 bits that is within all its bounds
abbrev pub IntervalRulesOut : List Conj → Type 0
IntervalRulesOut conjuncts = (x : ℕ) × ((z : ℤ) → FitsSigned w32 z → ¬ IsWithinBounds conjuncts x z)

-- ---- parity

-- the conjunct holds modulo 2, where it is an equality of degree at most 1
abbrev pub HoldsModuloTwo : (ℕ → ℕ) → Conj → Type 0
HoldsModuloTwo v (Equal p) = All (λ t. length t.vars ≤ 1) p.monomials → (p.constant + value_at v p.monomials) % 2 ≡ 0
HoldsModuloTwo v (Unequal p) = ⊤
HoldsModuloTwo v (Less p q) = ⊤
HoldsModuloTwo v (AtMost p q) = ⊤
HoldsModuloTwo v (SamePlace a b) = ⊤
HoldsModuloTwo v (OtherPlace a b) = ⊤
HoldsModuloTwo v (Written y) = ⊤
HoldsModuloTwo v (Unwritten y) = ⊤
HoldsModuloTwo v (Quotient y p q) = ⊤

-- the equalities of degree at most 1 have no solution modulo 2
abbrev pub ParityRulesOut : List Conj → Type 0
ParityRulesOut conjuncts = (v : ℕ → ℕ) → ¬ All (HoldsModuloTwo v) conjuncts

-- ---- order

-- the conjunct holds in the integers, where it is an order or an equality between two variables
abbrev pub HoldsInIntegers : (ℕ → ℤ) → Conj → Type 0
HoldsInIntegers v (Equal p) = (x y : ℕ) → IsDifference x y p → v x ≡ v y
HoldsInIntegers v (Unequal p) = ⊤
HoldsInIntegers v (Less p q) = (x y : ℕ) → IsVariable x p → IsVariable y q → v x <ℤ v y
HoldsInIntegers v (AtMost p q) = (x y : ℕ) → IsVariable x p → IsVariable y q → v x ≤ℤ v y
HoldsInIntegers v (SamePlace a b) = ⊤
HoldsInIntegers v (OtherPlace a b) = ⊤
HoldsInIntegers v (Written z) = ⊤
HoldsInIntegers v (Unwritten z) = ⊤
HoldsInIntegers v (Quotient z p q) = ⊤

-- the orders and equalities between two variables have no solution in the integers
abbrev pub OrderRulesOut : List Conj → Type 0
OrderRulesOut conjuncts = (v : ℕ → ℤ) → ¬ All (HoldsInIntegers v) conjuncts

-- ---- kinds

-- the rule of the kind rules the list out; a kind other than 1, 2 and 3 has no rule, and rules nothing out
unfoldable pub RulesOut : ℕ → List Conj → Type 0
RulesOut zero conjuncts = ⊥
RulesOut (suc zero) conjuncts = IntervalRulesOut conjuncts
RulesOut (suc (suc zero)) conjuncts = ParityRulesOut conjuncts
RulesOut (suc (suc (suc zero))) conjuncts = OrderRulesOut conjuncts
RulesOut (suc (suc (suc (suc k)))) conjuncts = ⊥

-- the rule of some kind of the list rules the conjuncts out
abbrev pub SomeRulesOut : List ℕ → List Conj → Type 0
SomeRulesOut [] conjuncts = ⊥
SomeRulesOut (k ∷ ks) conjuncts = RulesOut k conjuncts ⊎ SomeRulesOut ks conjuncts
