-- When a stack stands for a list of variables and conjuncts.
use Rattle.std.specs.Prelude.{◌≡◌, ◌≢◌, ℕ, ◌+◌, ◌*◌, ◌<◌, ◌≤◌, ◌⊎◌, Bool, true, false, List, [], ◌∷◌, Option, Some, All, length, slice_get, slice_index}
use Rattle.px_terms.specs.Conjuncts.{IsWellSorted}
use Rattle.px_terms.specs.declared.types.ValueType.TheVariants.{Int}
use Rattle.px_terms.specs.declared.variables.VarInfo.{VarInfo}
use Rattle.px_terms.specs.declared.variables.Sort.TheVariants.{Made, Cell}
use Rattle.px_terms.specs.declared.conjuncts.Conj.{Conj}
use Rattle.px_plain.specs.declared.nodes.Difference.{Difference}
use Rattle.px_plain.specs.declared.trees.Tree.{Tree}
use Rattle.px_plain.specs.declared.claims.Mark.{Mark}
use Rattle.px_plain.specs.declared.claims.Mark.TheVariants as mark
use Rattle.px_plain.specs.Forest.{IsAbove}
use Rattle.px_plain.specs.Differences.{difference_at, IfEqual, IfUnequal, AreInside, AreBare}
use Rattle.px_plain.specs.Places.{ArePlaceNumbers}
use Rattle.px_plain.specs.Readings.{word_difference, place_difference, unwritten_node, written_node}
use Rattle.px_plain.specs.Models.{IsPlainlyRefuted}
use Rattle.px_plain.specs.Trees.{Flat, KeepsFlat, IsRanked, AreOne, rank_at}
use Rattle.px_plain.specs.Joins.{AllApart, owner_at}
use Rattle.px_plain.specs.Held.{HeldItem, held_vars, held_apart, held_conjuncts, held_count}
use Rattle.px_plain.specs.Steps.{Content, mark_at, undone, last_step, is_refuted, IsStepInside, bare, grounded}

-- ---- words or places

-- where the conjunct is read as an equality, it holds
abbrev pub EqualBy : (Conj → Option Difference) → (ℕ → ℕ) → Conj → Type 0
EqualBy read w c = (d : Difference) → read c ≡ Some d → IfEqual w d

-- where it is read as a disequality, that holds
abbrev pub UnequalBy : (Conj → Option Difference) → (ℕ → ℕ) → Conj → Type 0
UnequalBy read w c = (d : Difference) → read c ≡ Some d → IfUnequal w d

-- none of the variables is 0, and no two are the same
pub record ArePlacesApart (w : ℕ → ℕ) (xs : List ℕ) : Type 0 where
  pub null : (i : ℕ) → i < length xs → ¬ IsAbove w 0 (slice_index xs i + 1) 0
  pub pairs : (i j : ℕ) → i < j → j < length xs → ¬ IsAbove w (slice_index xs j + 1) (slice_index xs i + 1) 0

-- trees and disequalities say what the conjuncts say that are read so, beside what holds of all values that are
-- asked for; and no disequality is broken
pub record Solves (read : Conj → Option Difference) (asked : (ℕ → ℕ) → Type 0) (apart : List ℕ) (conjuncts : List Conj) (t : List Tree) (us : List Difference) : Type 0 where
  pub flat : Flat t
  pub there : (w : ℕ → ℕ) → asked w → All (EqualBy read w) conjuncts → KeepsFlat w flat
  pub back : (w : ℕ → ℕ) → KeepsFlat w flat → All (EqualBy read w) conjuncts
  pub unequal_there : (w : ℕ → ℕ) → All (UnequalBy read w) conjuncts → AllApart w us
  pub apart_there : (w : ℕ → ℕ) → All (UnequalBy read w) conjuncts → ArePlacesApart w apart
  pub unequal_back : (w : ℕ → ℕ) → AllApart w us → ArePlacesApart w apart → All (UnequalBy read w) conjuncts
  pub inside : AreInside (length t) us
  pub separate : (j : ℕ) → j < length us → ¬ AreOne flat (difference_at us j)

abbrev pub AnyWords : (ℕ → ℕ) → Type 0
AnyWords w = Unit {0}

-- ---- places

-- a place apart has this root
pub record IsOwned {t : List Tree} (f : Flat t) (apart : List ℕ) (r : ℕ) : Type 0 where
  pub at : ℕ
  pub inside : at < length apart
  pub root : f.root (slice_index apart at + 1) ≡ r

-- null is a root, roots have one type, a made variable is alone, and no two places apart have one root
pub record ArePlaced (vars : List VarInfo) (owners : List Bool) (apart : List ℕ) {t : List Tree} (f : Flat t) : Type 0 where
  pub null : f.root 0 ≡ 0
  pub level : (v : ℕ) → v < length t → f.above v ≡ 0
  pub types : (x y : ℕ) (i j : VarInfo) → slice_get vars x ≡ Some i → slice_get vars y ≡ Some j → f.root (x + 1) ≡ y + 1 → i.value ≡ j.value
  pub pointers : (x : ℕ) (i : VarInfo) → slice_get vars x ≡ Some i → i.sort ≡ Made → i.value ≢ Int
  pub made : (x : ℕ) (i : VarInfo) → slice_get vars x ≡ Some i → i.sort ≡ Made → (v : ℕ) → v < length t → f.root v ≡ f.root (x + 1) → v ≡ x + 1
  pub owned : (k : ℕ) → k < length apart → owner_at owners (f.root (slice_index apart k + 1)) ≡ true
  pub owner : (r : ℕ) → owner_at owners r ≡ true → IsOwned f apart r
  pub some : (k : ℕ) → k < length apart → f.root (slice_index apart k + 1) ≢ 0
  pub distinct : (i j : ℕ) → i < j → j < length apart → f.root (slice_index apart i + 1) ≢ f.root (slice_index apart j + 1)
  pub inside : (k : ℕ) → k < length apart → slice_index apart k + 1 < length t

-- ---- marks

-- with these nodes unwritten the conjunct can be true
pub record IsMarkedBy (void : ℕ → Bool) (c : Conj) : Type 0 where
  pub word : (d : Difference) → word_difference c ≡ Some d → (void d.from ≡ false) × (void d.to ≡ false)
  pub place : (d : Difference) → place_difference c ≡ Some d → (void d.from ≡ false) × (void d.to ≡ false)
  pub unwritten : (u : ℕ) → unwritten_node c ≡ Some u → void u ≡ true
  pub written : (u : ℕ) → written_node c ≡ Some u → void u ≡ false

-- what is marked is so
pub record Agrees (void : ℕ → Bool) (marks : List Mark) : Type 0 where
  pub unwritten : (u : ℕ) → mark_at marks u ≡ mark.Unwritten → void u ≡ true
  pub written : (u : ℕ) → mark_at marks u ≡ mark.Written → void u ≡ false

-- marks say what the conjuncts say of nodes, only contents of cells are unwritten, and places apart are written
pub record AreMarksOf (vars : List VarInfo) (apart : List ℕ) (conjuncts : List Conj) (marks : List Mark) : Type 0 where
  pub there : (void : ℕ → Bool) → All (IsMarkedBy void) conjuncts → Agrees void marks
  pub back : (void : ℕ → Bool) → Agrees void marks → All (IsMarkedBy void) conjuncts
  pub cells : (x : ℕ) (i : VarInfo) → mark_at marks (x + 1) ≡ mark.Unwritten → slice_get vars x ≡ Some i → i.sort ≡ Cell
  pub written : (k : ℕ) → k < length apart → mark_at marks (slice_index apart k + 1) ≡ mark.Written

-- ---- a stack

-- it is what the list says, and the list isn't refuted
pub record Stands (vars : List VarInfo) (apart : List ℕ) (conjuncts : List Conj) (count : ℕ) (c : Content) : Type 0 where
  pub words : Solves word_difference AnyWords [] conjuncts c.words c.unequal_words
  pub places : Solves place_difference (ArePlaceNumbers vars) apart conjuncts c.places c.unequal_places
  pub placed : ArePlaced vars c.owners apart places.flat
  pub marks : AreMarksOf vars apart conjuncts c.marks
  pub bare : AreBare c.unequal_places
  pub words_ranked : IsRanked c.words
  pub places_ranked : IsRanked c.places
  pub few_words : length c.unequal_words ≤ count
  pub word_ranks : (v : ℕ) → v < length c.words → rank_at c.words v ≤ count
  pub place_ranks : (v : ℕ) → v < length c.places → rank_at c.places v ≤ 2 * count

-- where the list is refuted, nothing is known but that
abbrev pub IsAnswered : Bool → List VarInfo → List ℕ → List Conj → ℕ → Content → Type 0
IsAnswered true vars apart conjuncts count c = IsPlainlyRefuted vars conjuncts
IsAnswered false vars apart conjuncts count c = Stands vars apart conjuncts count c

-- it has these variables, so many items, and the answer
pub record IsOf (c : Content) (items : List HeldItem) : Type 0 where
  pub sorted : All (IsWellSorted (held_vars items)) (held_conjuncts items)
  pub few : length (held_vars items) ≤ 65536
  pub count : held_count items ≤ 65536
  pub vars : c.vars ≡ held_vars items
  pub depth : length c.steps ≡ length items
  pub words : length c.words ≡ length c.vars + 1
  pub places : length c.places ≡ length c.vars + 1
  pub marks : length c.marks ≡ length c.vars + 1
  pub owners : length c.owners ≡ length c.vars + 1
  pub answer : IsAnswered (is_refuted (last_step c.steps)) (held_vars items) (held_apart items) (held_conjuncts items) (held_count items) c

-- it holds the items, and was what it is once the last one is taken back
abbrev pub HoldsItems : Content → List HeldItem → Type 0
HoldsItems c [] = (c ≡ bare) ⊎ (c ≡ grounded)
HoldsItems c (i ∷ items) = IsOf c (i ∷ items) × IsStepInside (length c.words) (last_step c.steps) × HoldsItems (undone c) items
