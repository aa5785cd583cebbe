-- Places that variables haven't.
use Rattle.std.specs.Prelude.{◌≡◌, ℕ, ◌+◌, ◌*◌, ◌^◌, ◌<◌, ◌≤◌, List, [], ◌∷◌, Bool, true, false, Option, Some, None, All, cond, nat_eq, nat_lt, length, filter, flat_map, slice_index_or}
use Rattle.px_terms.specs.declared.conjuncts.Conj.{Conj}
use Rattle.px_interval.specs.declared.bounds.Bound.{Bound}
use Rattle.px_interval.specs.declared.gaps.Gap.{Gap}
use Rattle.px_interval.specs.declared.kept.Kept.{Kept}
use Rattle.px_interval.specs.Bounds.{bound_of}

abbrev pub gap_at : List Gap → ℕ → Gap
gap_at gs j = slice_index_or gs j (record { variable = 0; low = 0; end = 0 })

-- the gap takes the place n from x
abbrev pub Takes : ℕ → ℕ → Gap → Type 0
Takes x n g = (g.variable ≡ x) × (g.low ≤ n) × (n < g.end)

-- ---- what bounds leave out

abbrev pub above : ℕ → ℕ → List Gap
above x end = cond (nat_lt end (2 ^ 32)) (record { variable = x; low = end; end = 2 ^ 32 } ∷ []) []

abbrev pub gaps_around : ℕ → Bool → ℕ → ℕ → List Gap
gaps_around x true low end = record { variable = x; low = 0; end = low } ∷ above x end
gaps_around x false low end = record { variable = x; low = low; end = end } ∷ []

abbrev pub gaps_of : Bound → List Gap
gaps_of b = gaps_around b.variable b.inside b.low b.end

abbrev pub gaps_if : Option Bound → List Gap
gaps_if None = []
gaps_if (Some b) = gaps_of b

abbrev pub conjunct_gaps : Conj → List Gap
conjunct_gaps c = gaps_if (bound_of c)

-- ---- bounds that are kept

-- the variable of a bound
abbrev pub variable_of : Kept → ℕ
variable_of k = k.bound.variable

-- what the bounds on x leave out
abbrev pub gaps_on : ℕ → List Kept → List Gap
gaps_on x kept = flat_map (λ k. gaps_of k.bound) (filter (λ k. nat_eq (variable_of k) x) kept)

-- ---- gaps in order

-- by their variables, and by their first places where these are the same
abbrev pub IsInOrder : List Gap → Type 0
IsInOrder gs = (i j : ℕ) → i ≤ j → j < length gs → (gap_at gs i).variable * 2 ^ 32 + (gap_at gs i).low ≤ (gap_at gs j).variable * 2 ^ 32 + (gap_at gs j).low

-- the first places are places
abbrev pub HavePlaces : List Gap → Type 0
HavePlaces gs = All (λ g. g.low < 2 ^ 32) gs

-- one of the first i gaps takes the place n from x
pub record IsTaken (gs : List Gap) (i x n : ℕ) : Type 0 where
  pub at : ℕ
  pub before : at < i
  pub takes : Takes x n (gap_at gs at)

-- none of the first i gaps takes the place n from x
abbrev pub IsLeft : List Gap → ℕ → ℕ → ℕ → Type 0
IsLeft gs i x n = (j : ℕ) → j < i → ¬ Takes x n (gap_at gs j)

-- some variable has no place left
abbrev pub SomeFull : List Gap → Type 0
SomeFull gs = (x : ℕ) × ((n : ℕ) → n < 2 ^ 32 → IsTaken gs (length gs) x n)

-- each variable has a place left
abbrev pub NoneFull : List Gap → Type 0
NoneFull gs = (x : ℕ) → (n : ℕ) × (n < 2 ^ 32) × IsLeft gs (length gs) x n

-- of the variable, the places before `next` are taken by the first i gaps, and `next` isn't; lower
-- variables have a place left
pub record IsSwept (gs : List Gap) (i variable next : ℕ) : Type 0 where
  pub last : (j : ℕ) → j < i → (gap_at gs j).variable ≤ variable
  pub coming : (j : ℕ) → i ≤ j → j < length gs → variable ≤ (gap_at gs j).variable
  pub taken : (n : ℕ) → n < next → IsTaken gs i variable n
  pub free : (j : ℕ) → j < i → (gap_at gs j).variable ≡ variable → (gap_at gs j).low ≤ next → (gap_at gs j).end ≤ next
  pub lower : (x : ℕ) → x < variable → (n : ℕ) × (n < 2 ^ 32) × IsLeft gs i x n
