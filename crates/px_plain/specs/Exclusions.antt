-- Values that roots don't have, seen from lower roots.
use Rattle.std.specs.Prelude.{◌≡◌, ℕ, ◌+◌, ◌%◌, ◌^◌, ◌<◌, ◌≤◌, ◌⊎◌, List, false, length, slice_index, slice_index_or}
use Rattle.px_plain.specs.declared.nodes.Node.{Node}
use Rattle.px_plain.specs.declared.nodes.Difference.{Difference}
use Rattle.px_plain.specs.declared.nodes.Exclusion.{Exclusion}
use Rattle.px_plain.specs.declared.nodes.Separation.{Separation}
use Rattle.px_plain.specs.declared.nodes.Separation.TheVariants.{Impossible, Certain, By}
use Rattle.px_plain.specs.Forest.{node_at, parent_at, IsAbove, Keeps}
use Rattle.px_plain.specs.Differences.{difference_at, IfUnequal, IsForestOf}

abbrev pub exclusion_at : List Exclusion → ℕ → Exclusion
exclusion_at es j = slice_index_or es j (record { high = 0; low = 0; above = 0 })

-- no exclusion's difference holds
abbrev pub AllApart : (ℕ → ℕ) → List Exclusion → Type 0
AllApart val es = (j : ℕ) → j < length es → ¬ IsAbove val (exclusion_at es j).high (exclusion_at es j).low (exclusion_at es j).above

-- it excludes a value of a root, by a lower node
pub record IsOfRoot (t : List Node) (e : Exclusion) : Type 0 where
  pub lower : e.low < e.high
  pub inside : e.high < length t
  pub root : parent_at t e.high ≡ e.high

-- one end of the disequality is below the root `high`, and the other below the root `low`
abbrev pub HasEnds : List Node → Difference → ℕ → ℕ → Type 0
HasEnds t d high low = ((parent_at t d.from ≡ high) × (parent_at t d.to ≡ low)) ⊎ ((parent_at t d.from ≡ low) × (parent_at t d.to ≡ high))

-- where the exclusion's difference holds, so does that of the disequality
abbrev pub Breaks : List Node → Difference → Exclusion → Type 0
Breaks t d e = (val : ℕ → ℕ) → Keeps val t → IsAbove val e.high e.low e.above → IsAbove val d.to d.from d.plus

-- the exclusion says of roots what the disequality says of its ends
pub record Restates (t : List Node) (d : Difference) (e : Exclusion) : Type 0 where
  pub unequal : d.equal ≡ false
  pub ends : HasEnds t d e.high e.low
  pub breaks : Breaks t d e

-- it restates one of the first n differences
pub record IsRestated (t : List Node) (ds : List Difference) (n : ℕ) (e : Exclusion) : Type 0 where
  pub at : ℕ
  pub before : at < n
  pub restates : Restates t (difference_at ds at) e

-- what a disequality asks of values that the forest keeps
abbrev pub Asks : List Node → Difference → Separation → Type 0
Asks t d Impossible = (val : ℕ → ℕ) → Keeps val t → IsAbove val d.to d.from d.plus
Asks t d Certain = (val : ℕ → ℕ) → Keeps val t → ¬ IsAbove val d.to d.from d.plus
Asks t d (By e) = IsOfRoot t e × ((val : ℕ → ℕ) → Keeps val t → IsAbove val d.to d.from d.plus → IsAbove val e.high e.low e.above) × HasEnds t d e.high e.low × Breaks t d e

-- the exclusions are the old ones and at most one more, and make a disequality true
pub record Adds (t : List Node) (d : Difference) (old new : List Exclusion) : Type 0 where
  pub roots : ((j : ℕ) → j < length old → IsOfRoot t (exclusion_at old j)) → (j : ℕ) → j < length new → IsOfRoot t (exclusion_at new j)
  pub few : length new ≤ length old + 1
  pub old_apart : (val : ℕ → ℕ) → AllApart val new → AllApart val old
  pub unequal : (val : ℕ → ℕ) → Keeps val t → AllApart val new → IfUnequal val d
  pub each : (j : ℕ) → j < length new → ((j < length old) × (exclusion_at new j ≡ exclusion_at old j)) ⊎ Restates t d (exclusion_at new j)

-- the exclusions make the first n differences true, where these are disequalities
pub record Separates (t : List Node) (ds : List Difference) (n : ℕ) (es : List Exclusion) : Type 0 where
  pub roots : (j : ℕ) → j < length es → IsOfRoot t (exclusion_at es j)
  pub few : length es ≤ n
  pub unequal : (val : ℕ → ℕ) → Keeps val t → AllApart val es → (i : ℕ) → i < n → IfUnequal val (difference_at ds i)
  pub each : (j : ℕ) → j < length es → IsRestated t ds n (exclusion_at es j)

-- ---- values in a list

-- the value that an exclusion takes from its higher node
abbrev pub taken_by : List ℕ → Exclusion → ℕ
taken_by vs e = (slice_index vs e.low + e.above) % 2 ^ 32

abbrev pub IsApart : List ℕ → Exclusion → Type 0
IsApart vs e = ¬ (slice_index vs e.high ≡ taken_by vs e)

-- the exclusions stand by their higher nodes, which are roots
pub record InOrder (t : List Node) (es : List Exclusion) : Type 0 where
  pub rising : (i j : ℕ) → i ≤ j → j < length es → (exclusion_at es i).high ≤ (exclusion_at es j).high
  pub roots : (j : ℕ) → j < length es → IsOfRoot t (exclusion_at es j)

-- the values of the first nodes are kept by the forest, and apart in the first k exclusions: in all of these nodes
pub record Assigned (t : List Node) (es : List Exclusion) (k : ℕ) (vs : List ℕ) : Type 0 where
  pub above : (v : ℕ) → v < length vs → IsAbove (slice_index vs) v (parent_at t v) (node_at t v).offset
  pub apart : (j : ℕ) → j < k → IsApart vs (exclusion_at es j)
  pub passed : (j : ℕ) → j < k → (exclusion_at es j).high < length vs
  pub coming : (j : ℕ) → k ≤ j → j < length es → length vs ≤ (exclusion_at es j).high

-- an exclusion takes the number k from the root v
pub record IsTaken (es : List Exclusion) (vs : List ℕ) (v k : ℕ) : Type 0 where
  pub at : ℕ
  pub inside : at < length es
  pub high : (exclusion_at es at).high ≡ v
  pub taken : taken_by vs (exclusion_at es at) ≡ k

-- each root has the least number that no exclusion takes from it
pub record AreLeast (t : List Node) (es : List Exclusion) (vs : List ℕ) : Type 0 where
  pub each : (v k : ℕ) → v < length vs → parent_at t v ≡ v → k < slice_index vs v → IsTaken es vs v k

-- so many values, 0 the first, all below 2^32
pub record AreWords (n : ℕ) (vs : List ℕ) : Type 0 where
  pub size : length vs ≡ n
  pub zero : slice_index vs 0 ≡ 0
  pub words : (k d : ℕ) → k < length vs → slice_index_or vs k d < 2 ^ 32

-- ---- least values

-- with the number k at the root v, some disequality can't hold beside the value of a lower root
pub record IsBlocked (t : List Node) (ds : List Difference) (vs : List ℕ) (v k : ℕ) : Type 0 where
  pub at : ℕ
  pub inside : at < length ds
  pub unequal : (difference_at ds at).equal ≡ false
  pub low : ℕ
  pub lower : low < v
  pub ends : HasEnds t (difference_at ds at) v low
  pub breaks : (val : ℕ → ℕ) → Keeps val t → val v % 2 ^ 32 ≡ k % 2 ^ 32 → val low % 2 ^ 32 ≡ slice_index vs low % 2 ^ 32
      → IsAbove val (difference_at ds at).to (difference_at ds at).from (difference_at ds at).plus

-- the values are least over a forest of the equalities
pub record AreLeastOver (ds : List Difference) (vs : List ℕ) : Type 0 where
  pub table : List Node
  pub size : length table ≡ length vs
  pub is_forest : IsForestOf ds table
  pub blocked : (v k : ℕ) → v < length table → parent_at table v ≡ v → k < slice_index vs v → IsBlocked table ds vs v k
