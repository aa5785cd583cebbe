-- Marks that no valuation allows.
use Rattle.std.proofs.Common.{◌≡◌, inl, inr, ℕ, ◌+◌, ◌<◌, List, length, get_or, refl}
use Rattle.std.specs.Prelude.{Bool, true, false, All}
use Rattle.std.proofs.lemmas.List.Elements.{All-contains}
use Rattle.px_terms.specs.Valuations.{Valuation, IsUnwritten, FitsSort, Fits}
use Rattle.px_terms.specs.declared.types.ValueType.{ValueType}
use Rattle.px_terms.specs.declared.types.ValueType.TheVariants.{Int, Pointer}
use Rattle.px_terms.specs.declared.types.Value.{Value}
use Rattle.px_terms.specs.declared.types.Value.TheVariants as value
use Rattle.px_terms.specs.declared.variables.Sort.{Sort}
use Rattle.px_terms.specs.declared.variables.Sort.TheVariants.{Given, Cell, Input, Made}
use Rattle.px_terms.specs.declared.variables.VarInfo.{VarInfo}
use Rattle.px_plain.specs.declared.nodes.Difference.{Difference}
use Rattle.px_plain.specs.Differences.{difference_at}
use Rattle.px_plain.specs.Marks.{MarksUnwritten, SomeOtherSort, SomeMarkedEnd, SomeMarked}
use Rattle.px_plain.specs.NodeValues.{IsWrittenNode, IsUnwrittenNode, Satisfies}
use Rattle.px_plain.specs.Places.{mark_at}

-- only the content of a cell may be unwritten
pub must_be_cell : (s : Sort) (t : ValueType) (a : Value) → FitsSort s t a → IsUnwritten a → s ≡ Cell
must_be_cell Cell t a h k = refl
must_be_cell Given Int value.Unwritten h k = absurd h
must_be_cell Given (Pointer i) value.Unwritten h k = absurd h
must_be_cell Given t (value.Word z) h k = absurd k
must_be_cell Given t value.Null h k = absurd k
must_be_cell Given t (value.Block b) h k = absurd k
must_be_cell Input Int value.Unwritten h k = absurd h
must_be_cell Input (Pointer i) value.Unwritten h k = absurd h
must_be_cell Input t (value.Word z) h k = absurd k
must_be_cell Input t value.Null h k = absurd k
must_be_cell Input t (value.Block b) h k = absurd k
must_be_cell Made t value.Unwritten h k = absurd h.1
must_be_cell Made t (value.Word z) h k = absurd k
must_be_cell Made t value.Null h k = absurd k
must_be_cell Made t (value.Block b) h k = absurd k

pub other_sort : (vars : List VarInfo) (us : List ℕ) → SomeOtherSort vars us → (v : Valuation) → Fits vars v → ¬ All (IsUnwrittenNode v) us
other_sort vars us o v f h =
    o.sort (must_be_cell o.info.sort o.info.value (v o.variable) (f.sorts o.variable o.info o.is) (h o.at 0 o.inside o.variable o.node))

module _ (vars : List VarInfo) (us : List ℕ) (marks : List Bool) (m : MarksUnwritten vars us (length us) marks)
    (k : All (λ u. (x : ℕ) × (u ≡ x + 1) × (x < length vars)) us) (v : Valuation) (h : All (IsUnwrittenNode v) us) where
  -- a marked node isn't written
  not_written : (u : ℕ) → mark_at marks u ≡ true → ¬ IsWrittenNode v u
  not_written u e w =
      let c = m.asked u e in
      let x = All-contains (λ u. (x : ℕ) × (u ≡ x + 1) × (x < length vars)) us u k c in
      w x.0 x.1 (All-contains (IsUnwrittenNode v) us u h c x.0 x.1)

  pub marked_end : (ds : List Difference) → SomeMarkedEnd marks ds →
      (from : (i : ℕ) → i < length ds → IsWrittenNode v (difference_at ds i).from) (to : (i : ℕ) → i < length ds → IsWrittenNode v (difference_at ds i).to) → ⊥
  marked_end ds s from to = elim (s.marked) [
    | inl e ↦ not_written (difference_at ds s.at).from e (from s.at s.inside)
    | inr e ↦ not_written (difference_at ds s.at).to e (to s.at s.inside)
  ]

  pub marked_one : (rs : List ℕ) → SomeMarked marks rs → ¬ All (IsWrittenNode v) rs
  marked_one rs s w = not_written (get_or rs s.at 0) s.marked (w s.at 0 s.inside)

module _ (vars : List VarInfo) (ws ps : List Difference) (us rs : List ℕ) (marks : List Bool) (m : MarksUnwritten vars us (length us) marks)
    (k : All (λ u. (x : ℕ) × (u ≡ x + 1) × (x < length vars)) us) (v : Valuation) (s : Satisfies v ws ps us rs) where
  pub no_word : ¬ SomeMarkedEnd marks ws
  no_word e = marked_end vars us marks m k v s.are_unwritten ws e
      (λ i l. (s.words_hold i (record { from = 0; to = 0; plus = 0; equal = false }) l).from)
      (λ i l. (s.words_hold i (record { from = 0; to = 0; plus = 0; equal = false }) l).to)

  pub no_place : ¬ SomeMarkedEnd marks ps
  no_place e = marked_end vars us marks m k v s.are_unwritten ps e
      (λ i l. (s.places_hold i (record { from = 0; to = 0; plus = 0; equal = false }) l).from)
      (λ i l. (s.places_hold i (record { from = 0; to = 0; plus = 0; equal = false }) l).to)

  pub no_written : ¬ SomeMarked marks rs
  no_written e = marked_one vars us marks m k v s.are_unwritten rs e s.are_written
