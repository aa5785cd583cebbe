-- Numbers for places: 0 is null, and any other number a block. Node x + 1 is the variable x.
use Rattle.std.specs.Prelude.{◌≡◌, ◌≢◌, ℕ, ◌+◌, ◌^◌, ◌<◌, ◌≤◌, ◌⊎◌, Bool, true, false, List, Some, length, cond, slice_get, slice_index, slice_index_or}
use Rattle.px_terms.specs.declared.types.ValueType.TheVariants.{Int}
use Rattle.px_terms.specs.declared.variables.VarInfo.{VarInfo}
use Rattle.px_terms.specs.declared.variables.Sort.TheVariants.{Made}
use Rattle.px_plain.specs.declared.nodes.Node.{Node}
use Rattle.px_plain.specs.declared.nodes.Difference.{Difference}
use Rattle.px_plain.specs.Forest.{parent_at, Keeps}
use Rattle.px_plain.specs.Differences.{difference_at, IsForestOf}

-- numbers that the places of variables can have: only null has two types, and a made block is that of one variable
pub record ArePlaceNumbers (vars : List VarInfo) (val : ℕ → ℕ) : Type 0 where
  pub null : val 0 ≡ 0
  pub small : (v : ℕ) → val v < 2 ^ 32
  pub types : (x y : ℕ) (i j : VarInfo) → slice_get vars x ≡ Some i → slice_get vars y ≡ Some j → val (x + 1) ≡ val (y + 1)
      → (i.value ≡ j.value) ⊎ (val (x + 1) ≡ 0)
  pub pointers : (x : ℕ) (i : VarInfo) → slice_get vars x ≡ Some i → i.sort ≡ Made → i.value ≢ Int
  pub made : (x : ℕ) (i : VarInfo) → slice_get vars x ≡ Some i → i.sort ≡ Made → val (x + 1) ≢ 0
  pub apart : (x y : ℕ) (i : VarInfo) → slice_get vars x ≡ Some i → i.sort ≡ Made → x ≢ y → y < length vars → val (x + 1) ≢ val (y + 1)

-- ---- roots of several types

-- a variable below the root r has another type than the variable of r
pub record IsMixed (vars : List VarInfo) (t : List Node) (r : ℕ) : Type 0 where
  pub below : ℕ
  pub root : ℕ
  pub first : VarInfo
  pub second : VarInfo
  pub is_first : slice_get vars below ≡ Some first
  pub is_second : slice_get vars root ≡ Some second
  pub parent : parent_at t (below + 1) ≡ r
  pub node : r ≡ root + 1
  pub types : first.value ≢ second.value

-- the variable x has the type of the variable of its root, if it has one
abbrev pub HasTypeOfRoot : List VarInfo → List Node → ℕ → Type 0
HasTypeOfRoot vars t x = (y : ℕ) (i j : VarInfo) → slice_get vars x ≡ Some i → slice_get vars y ≡ Some j → parent_at t (x + 1) ≡ y + 1 → i.value ≡ j.value

abbrev pub mark_at : List Bool → ℕ → Bool
mark_at marks v = slice_index_or marks v false

-- the roots of several types that the first n variables show are marked
pub record MarksMixed (vars : List VarInfo) (t : List Node) (n : ℕ) (marks : List Bool) : Type 0 where
  pub size : length marks ≡ length t
  pub mixed : (r : ℕ) → mark_at marks r ≡ true → IsMixed vars t r
  pub others : (x : ℕ) → x < n → (mark_at marks (parent_at t (x + 1)) ≡ true) ⊎ HasTypeOfRoot vars t x

-- ---- the numbers

-- a marked root is null, and any other root is a block of its own number
abbrev pub number_under : List Bool → ℕ → ℕ
number_under marks root = cond (mark_at marks root) 0 root

-- other numbers are equal where the numbers of places are
abbrev pub AreForced : List ℕ → (ℕ → ℕ) → Type 0
AreForced ns val = (v : ℕ) → v < length ns → val v ≡ val (slice_index ns v)

-- the numbers of a forest's places: where they are equal, any numbers of places are that the forest keeps
pub record AreNumbersOf (vars : List VarInfo) (t : List Node) (ns : List ℕ) : Type 0 where
  pub size : length ns ≡ length t
  pub below : (v : ℕ) → v < length t → slice_index ns v ≤ v
  pub keeps : Keeps (slice_index ns) t
  pub types : (x y : ℕ) (i j : VarInfo) → slice_get vars x ≡ Some i → slice_get vars y ≡ Some j → slice_index ns (x + 1) ≡ y + 1 → i.value ≡ j.value
  pub forced : (val : ℕ → ℕ) → ArePlaceNumbers vars val → Keeps val t → AreForced ns val

-- a number is 0 only where the root is null or of several types, and the root's elsewhere
pub record AreExactNumbers (vars : List VarInfo) (t : List Node) (ns : List ℕ) : Type 0 where
  pub null : (v : ℕ) → v < length t → slice_index ns v ≡ 0 → (parent_at t v ≡ 0) ⊎ IsMixed vars t (parent_at t v)
  pub root : (v : ℕ) → v < length t → slice_index ns v ≢ 0 → slice_index ns v ≡ parent_at t v

-- the numbers are exact over a forest of the equalities
pub record AreExactOver (vars : List VarInfo) (ds : List Difference) (ns : List ℕ) : Type 0 where
  pub table : List Node
  pub size : length table ≡ length vars + 1
  pub is_forest : IsForestOf ds table
  pub exact : AreExactNumbers vars table ns

-- ---- what can't be

-- a disequality of one number
abbrev pub IsClash : List ℕ → Difference → Type 0
IsClash ns d = (d.equal ≡ false) × (slice_index ns d.from ≡ slice_index ns d.to)

pub record SomeClash (ns : List ℕ) (ds : List Difference) : Type 0 where
  pub at : ℕ
  pub inside : at < length ds
  pub clash : IsClash ns (difference_at ds at)

-- a made variable is a pointer to a block of its own, and another variable hasn't a made variable's block
pub record IsPlaced (vars : List VarInfo) (ns : List ℕ) (x : ℕ) : Type 0 where
  pub pointer : (i : VarInfo) → slice_get vars x ≡ Some i → i.sort ≡ Made → i.value ≢ Int
  pub own : (i : VarInfo) → slice_get vars x ≡ Some i → i.sort ≡ Made → slice_index ns (x + 1) ≡ x + 1
  pub other : (y : ℕ) (j : VarInfo) → slice_get vars y ≡ Some j → j.sort ≡ Made → slice_index ns (x + 1) ≡ y + 1 → x ≡ y
