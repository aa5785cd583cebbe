-- Marks of the nodes that are to be unwritten.
use Rattle.std.specs.Prelude.{◌≡◌, ◌≢◌, ℕ, ◌+◌, ◌<◌, ◌⊎◌, Bool, true, false, List, Some, Contains, length, slice_get, slice_index}
use Rattle.px_terms.specs.declared.variables.VarInfo.{VarInfo}
use Rattle.px_terms.specs.declared.variables.Sort.TheVariants.{Cell}
use Rattle.px_plain.specs.declared.nodes.Difference.{Difference}
use Rattle.px_plain.specs.Differences.{difference_at}
use Rattle.px_plain.specs.Places.{mark_at}

-- the first n of the nodes are marked, no other is, and those that are stand for contents of cells
pub record MarksUnwritten (vars : List VarInfo) (us : List ℕ) (n : ℕ) (marks : List Bool) : Type 0 where
  pub size : length marks ≡ length vars + 1
  pub asked : (u : ℕ) → mark_at marks u ≡ true → Contains us u
  pub cells : (x : ℕ) (i : VarInfo) → mark_at marks (x + 1) ≡ true → slice_get vars x ≡ Some i → i.sort ≡ Cell
  pub all : (k : ℕ) → k < n → mark_at marks (slice_index us k) ≡ true

-- one of the nodes is that of a variable that is always written
pub record SomeOtherSort (vars : List VarInfo) (us : List ℕ) : Type 0 where
  pub at : ℕ
  pub variable : ℕ
  pub info : VarInfo
  pub inside : at < length us
  pub node : slice_index us at ≡ variable + 1
  pub is : slice_get vars variable ≡ Some info
  pub sort : info.sort ≢ Cell

-- a difference mentions a marked node
pub record SomeMarkedEnd (marks : List Bool) (ds : List Difference) : Type 0 where
  pub at : ℕ
  pub inside : at < length ds
  pub marked : (mark_at marks (difference_at ds at).from ≡ true) ⊎ (mark_at marks (difference_at ds at).to ≡ true)

-- no end of the difference is marked
abbrev pub HasUnmarkedEnds : List Bool → Difference → Type 0
HasUnmarkedEnds marks d = (mark_at marks d.from ≡ false) × (mark_at marks d.to ≡ false)

pub record SomeMarked (marks : List Bool) (us : List ℕ) : Type 0 where
  pub at : ℕ
  pub inside : at < length us
  pub marked : mark_at marks (slice_index us at) ≡ true

-- what is to be unwritten is marked, and nothing that is to be written
pub record AreMarks (vars : List VarInfo) (words places : List Difference) (unwritten written : List ℕ) (marks : List Bool) : Type 0 where
  pub marks_unwritten : MarksUnwritten vars unwritten (length unwritten) marks
  pub word_ends : (i : ℕ) → i < length words → HasUnmarkedEnds marks (difference_at words i)
  pub place_ends : (i : ℕ) → i < length places → HasUnmarkedEnds marks (difference_at places i)
  pub are_written : (i : ℕ) → i < length written → mark_at marks (slice_index written i) ≡ false
