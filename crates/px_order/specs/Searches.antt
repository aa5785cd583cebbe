-- What a search knows of variables beside the first one of a comparison, and how far it has come.
use Rattle.std.specs.Prelude.{◌≡◌, ℕ, ◌+◌, ◌-◌, ◌*◌, ◌<◌, ◌≤◌, ℤ, ◌<ℤ◌, ◌≤ℤ◌, ◌⊎◌, List, [], ◌∷◌, ◌++◌, All, Bool, true, false, ⊤, length, sum_by, slice_index, slice_index_or, slice_set}
use Rattle.px_order.specs.declared.comparisons.Comparison.{Comparison}
use Rattle.px_order.specs.declared.search.Mark.{Mark}
use Rattle.px_order.specs.declared.search.Mark.TheVariants.{New, AtLeast, Greater}
use Rattle.px_order.specs.Comparisons.{IsOrdered, Holds, comparison_at}

-- ---- marks

abbrev pub mark_at : List Mark → ℕ → Mark
mark_at marks x = slice_index_or marks x New

-- how much a mark says
abbrev pub strength : Mark → ℕ
strength New = 0
strength AtLeast = 1
strength Greater = 2

-- what a comparison carries on from its first variable to its second
abbrev pub carried : Mark → Bool → Mark
carried New strict = New
carried AtLeast true = Greater
carried AtLeast false = AtLeast
carried Greater strict = Greater

-- the value n is beside t as the mark says
abbrev pub IsAsMarked : Mark → ℤ → ℤ → Type 0
IsAsMarked New t n = ⊤
IsAsMarked AtLeast t n = t ≤ℤ n
IsAsMarked Greater t n = t <ℤ n

-- wherever the comparisons hold, all values are as marked beside each t that the new comparison allows its first variable
pub record AreWarranted (comparisons : List Comparison) (new : Comparison) (marks : List Mark) : Type 0 where
  pub marked : (v : ℕ → ℤ) (t : ℤ) → All (Holds v) comparisons → IsOrdered new.strict t (v new.second) → (x : ℕ) → IsAsMarked (mark_at marks x) t (v x)

-- of its second variable is known what the comparison carries on
abbrev pub IsCarried : List Mark → Comparison → Type 0
IsCarried marks c = strength (carried (mark_at marks c.first) c.strict) ≤ strength (mark_at marks c.second)

abbrev pub AreCarried : List Comparison → List Mark → Type 0
AreCarried comparisons marks = (k : ℕ) → k < length comparisons → IsCarried marks (comparison_at comparisons k)

-- ---- marked variables

-- the variable stands at the place `from` or at a later one
abbrev pub IsWaiting : List ℕ → ℕ → ℕ → Type 0
IsWaiting reached from x = (i : ℕ) × (from ≤ i) × (i < length reached) × (slice_index reached i ≡ x)

-- each variable that is marked is among those reached
pub record AreReached (marks : List Mark) (reached : List ℕ) : Type 0 where
  pub inside : All (λ x. x < length marks) reached
  pub listed : (x : ℕ) → 0 < strength (mark_at marks x) → IsWaiting reached 0 x

-- no variable is marked
pub record IsUnmarked (marks : List Mark) (reached : List ℕ) : Type 0 where
  pub clean : (x : ℕ) → strength (mark_at marks x) ≡ 0
  pub none : length reached ≡ 0

-- what the comparison carries on is known, or will be, since its first variable waits
abbrev pub IsHandled : List Mark → List ℕ → ℕ → Comparison → Type 0
IsHandled marks reached next c = IsCarried marks c ⊎ IsWaiting reached next c.first

abbrev pub AreHandled : List Comparison → List Mark → List ℕ → ℕ → Type 0
AreHandled comparisons marks reached next = (k : ℕ) → k < length comparisons → IsHandled marks reached next (comparison_at comparisons k)

-- but for those of the first n that have the variable x first
abbrev pub AreHandledBut : List Comparison → List Mark → List ℕ → ℕ → ℕ → ℕ → Type 0
AreHandledBut comparisons marks reached next x n = (k : ℕ) → k < length comparisons
    → IsHandled marks reached next (comparison_at comparisons k) ⊎ (((comparison_at comparisons k).first ≡ x) × (k < n))

-- ---- steps

-- how much the marks may still say, and how many places there are
abbrev pub work : List Mark → List ℕ → ℕ
work marks reached = 2 * sum_by (λ m. 2 - strength m) marks + length reached

-- a variable gets a mark, unless its own says as much
pub data Raises (x : ℕ) (mark : Mark) (old new : List Mark) (before now : List ℕ) : Type 0 where
  stays : strength mark ≤ strength (mark_at old x) → new ≡ old → now ≡ before → Raises x mark old new before now
  rises : strength (mark_at old x) < strength mark → new ≡ slice_set old x mark → now ≡ before ++ x ∷ [] → Raises x mark old new before now

-- what the marks say stays warranted, none says less, no more is left to do, and variables are only added
pub record Learns (comparisons : List Comparison) (old new : List Mark) (before now : List ℕ) : Type 0 where
  pub warranted : (c : Comparison) → AreWarranted comparisons c old → AreWarranted comparisons c new
  pub grows : (x : ℕ) → strength (mark_at old x) ≤ strength (mark_at new x)
  pub less : work new now ≤ work old before
  pub longer : length before ≤ length now
