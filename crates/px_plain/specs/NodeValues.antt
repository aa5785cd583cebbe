-- What a valuation says of nodes.
use Rattle.std.specs.Prelude.{◌≡◌, ◌≢◌, ℕ, zero, suc, ◌+◌, ◌<◌, List, All, length, true, false}
use Rattle.px_terms.specs.Valuations.{Valuation, IsUnwritten, number_of}
use Rattle.px_terms.specs.Conjuncts.{IsIntVariable, IsPointerVariable}
use Rattle.px_terms.specs.declared.types.Value.{Value}
use Rattle.px_terms.specs.declared.types.Value.TheVariants.{Word, Null, Block, Unwritten}
use Rattle.px_terms.specs.declared.variables.VarInfo.{VarInfo}
use Rattle.px_plain.specs.declared.nodes.Difference.{Difference}
use Rattle.px_plain.specs.Differences.{IfEqual, IfUnequal}

-- the numbers of the words
abbrev pub words_at : Valuation → ℕ → ℕ
words_at v zero = 0
words_at v (suc x) = number_of (v x)

-- 0 for null, and a number of its own for each block
abbrev pub place_number : Value → ℕ
place_number (Word z) = 0
place_number Null = 0
place_number (Block b) = b + 1
place_number Unwritten = 0

abbrev pub places_at : Valuation → ℕ → ℕ
places_at v zero = 0
places_at v (suc x) = place_number (v x)

-- the node's variable is written, if it has one
abbrev pub IsWrittenNode : Valuation → ℕ → Type 0
IsWrittenNode v u = (x : ℕ) → u ≡ x + 1 → ¬ IsUnwritten (v x)

abbrev pub IsUnwrittenNode : Valuation → ℕ → Type 0
IsUnwrittenNode v u = (x : ℕ) → u ≡ x + 1 → IsUnwritten (v x)

-- a difference of words holds, and its variables are written
pub record IsTrueOfWords (v : Valuation) (d : Difference) : Type 0 where
  pub equal : IfEqual (words_at v) d
  pub unequal : IfUnequal (words_at v) d
  pub from : IsWrittenNode v d.from
  pub to : IsWrittenNode v d.to

-- two places are the same or others, and the variables are written
pub record IsTrueOfPlaces (v : Valuation) (d : Difference) : Type 0 where
  pub equal : d.equal ≡ true → places_at v d.to ≡ places_at v d.from
  pub unequal : d.equal ≡ false → places_at v d.to ≢ places_at v d.from
  pub from : IsWrittenNode v d.from
  pub to : IsWrittenNode v d.to

-- a valuation makes all parts of a list of conjuncts true
pub record Satisfies (v : Valuation) (words places : List Difference) (unwritten written : List ℕ) : Type 0 where
  pub words_hold : All (IsTrueOfWords v) words
  pub places_hold : All (IsTrueOfPlaces v) places
  pub are_unwritten : All (IsUnwrittenNode v) unwritten
  pub are_written : All (IsWrittenNode v) written

-- ---- sorts of nodes

abbrev pub IsIntNode : List VarInfo → ℕ → Type 0
IsIntNode vars u = (x : ℕ) → u ≡ x + 1 → IsIntVariable vars x

abbrev pub IsPointerNode : List VarInfo → ℕ → Type 0
IsPointerNode vars u = (x : ℕ) → u ≡ x + 1 → IsPointerVariable vars x

-- the parts mention nodes by their types
pub record AreSorted (vars : List VarInfo) (words places : List Difference) (unwritten written : List ℕ) : Type 0 where
  pub word_from : All (λ d. IsIntNode vars d.from) words
  pub word_to : All (λ d. IsIntNode vars d.to) words
  pub place_from : All (λ d. IsPointerNode vars d.from) places
  pub place_to : All (λ d. IsPointerNode vars d.to) places
  pub bare : All (λ d. d.plus ≡ 0) places
  pub are_variables : All (λ u. (x : ℕ) × (u ≡ x + 1) × (x < length vars)) unwritten
  pub inside : All (λ u. u < length vars + 1) written
