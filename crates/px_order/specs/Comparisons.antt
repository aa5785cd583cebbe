-- Comparisons of two variables.
use Rattle.std.specs.Prelude.{◌≡◌, ◌↔◌, ℕ, ◌<◌, ℤ, ◌<ℤ◌, ◌≤ℤ◌, List, [], ◌∷◌, All, Bool, true, false, ⊤, length, map, slice_index, slice_index_or}
use Rattle.px_terms.specs.Terms.{Term}
use Rattle.px_terms.specs.Variables.{variables_of}
use Rattle.px_terms.specs.Rules.{HoldsInIntegers}
use Rattle.px_terms.specs.declared.conjuncts.Conj.{Conj}
use Rattle.px_terms.specs.declared.conjuncts.Conj.TheVariants.{Equal, Unequal, Less, AtMost, SamePlace, OtherPlace, Written, Unwritten, Quotient}
use Rattle.px_order.specs.declared.comparisons.Comparison.{Comparison}

-- a number as a term, with the variable x
abbrev pub unit : ℕ → ℕ → Term
unit a x = record { coefficient = a; vars = x ∷ [] }

-- less where it is strict, and else at most
abbrev pub IsOrdered : Bool → ℤ → ℤ → Type 0
IsOrdered true a b = a <ℤ b
IsOrdered false a b = a ≤ℤ b

-- the comparison holds of the values
abbrev pub Holds : (ℕ → ℤ) → Comparison → Type 0
Holds v c = IsOrdered c.strict (v c.first) (v c.second)

-- both variables are below n
abbrev pub IsBelow : ℕ → Comparison → Type 0
IsBelow n c = (c.first < n) × (c.second < n)

-- the variables that a conjunct compares are below n
abbrev pub ComparesBelow : ℕ → Conj → Type 0
ComparesBelow n (Equal p) = All (λ x. x < n) (variables_of p)
ComparesBelow n (Unequal p) = ⊤
ComparesBelow n (Less p q) = All (λ x. x < n) (variables_of p) × All (λ x. x < n) (variables_of q)
ComparesBelow n (AtMost p q) = All (λ x. x < n) (variables_of p) × All (λ x. x < n) (variables_of q)
ComparesBelow n (SamePlace a b) = ⊤
ComparesBelow n (OtherPlace a b) = ⊤
ComparesBelow n (Written x) = ⊤
ComparesBelow n (Unwritten x) = ⊤
ComparesBelow n (Quotient x p q) = ⊤

-- a conjunct more is read: the comparisons say what those before say, and what the conjunct says
pub record Adds (conjunct : Conj) (old new : List Comparison) : Type 0 where
  pub same : (v : ℕ → ℤ) → All (Holds v) new ↔ (All (Holds v) old × HoldsInIntegers v conjunct)
  pub below : (n : ℕ) → ComparesBelow n conjunct → All (IsBelow n) old → All (IsBelow n) new

abbrev pub comparison_at : List Comparison → ℕ → Comparison
comparison_at cs k = slice_index_or cs k (record { first = 0; second = 0; strict = false })

-- some comparison is of x with y
abbrev pub IsCompared : List Comparison → ℕ → ℕ → Type 0
IsCompared cs x y = (k : ℕ) × (k < length cs) × ((comparison_at cs k).first ≡ x) × ((comparison_at cs k).second ≡ y)

-- no values make them hold
abbrev pub HaveNoSolution : List Comparison → Type 0
HaveNoSolution cs = (v : ℕ → ℤ) → ¬ All (Holds v) cs

-- the first variable, as a key
abbrev pub first_compared : Comparison → ℕ
first_compared c = c.first

-- the keys are the first variables, and all variables are below n
pub record AreChained (cs : List Comparison) (firsts : List ℕ) (n : ℕ) : Type 0 where
  pub chained : firsts ≡ map first_compared cs
  pub below : All (IsBelow n) cs

-- the comparison is strict, and its variables have one number
abbrev pub IsStrictWithin : List ℕ → Comparison → Type 0
IsStrictWithin numbers c = (c.strict ≡ true) × (slice_index numbers c.first ≡ slice_index numbers c.second)
