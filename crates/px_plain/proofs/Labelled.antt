-- The places of a valuation that fits, numbered: numbers of places under which all differences hold.
use Rattle.std.proofs.Common.{◌≡◌, ◌≢◌, ◌⊎◌, inl, inr, ℕ, ◌+◌, ◌-◌, ◌^◌, ◌<◌, ◌≤◌, List, length, refl, sym, ap, subst, ◌∙◌, arith}
use Rattle.std.specs.Prelude.{false, Some, All, slice_get}
use Rattle.std.proofs.lemmas.Bool.{cases_eq}
use Rattle.std.proofs.lemmas.Option.{slice_get_within, slice_get-get_or}
use Rattle.px_terms.specs.Valuations.{Valuation, IsBlock, FitsSort, Fits}
use Rattle.px_terms.specs.declared.types.TypeId.{TypeId}
use Rattle.px_terms.specs.declared.types.ValueType.{ValueType}
use Rattle.px_terms.specs.declared.types.ValueType.TheVariants.{Int, Pointer}
use Rattle.px_terms.specs.declared.types.Value.{Value}
use Rattle.px_terms.specs.declared.types.Value.TheVariants as value
use Rattle.px_terms.specs.declared.variables.Sort.{Sort}
use Rattle.px_terms.specs.declared.variables.Sort.TheVariants.{Given, Cell, Input, Made}
use Rattle.px_terms.specs.declared.variables.VarInfo.{VarInfo}
use Rattle.px_plain.specs.declared.nodes.Difference.{Difference}
use Rattle.px_plain.specs.Differences.{difference_at, AllHold, AreInside, AreBare}
use Rattle.px_plain.specs.NodeValues.{words_at, places_at, place_number, IsTrueOfWords, IsTrueOfPlaces, IsIntNode, IsPointerNode}
use Rattle.px_plain.specs.Places.{ArePlaceNumbers}
use Rattle.px_plain.proofs.Labels.{label, first_below, label_same, same_label, label_null, null_label}
use Rattle.px_plain.proofs.Meanings.{places_after}
use Rattle.px_plain.proofs.Placing.{info_at}
use Rattle.px_plain.proofs.Lists.{pointer_inside}
use Rattle.px_terms.proofs.DomainLemmas.{int_below}

block_of : (a : Value) → place_number a ≢ 0 → (b : ℕ) × (a ≡ value.Block b)
block_of (value.Word z) h = absurd (h refl)
block_of value.Null h = absurd (h refl)
block_of (value.Block b) h = (b, refl)
block_of value.Unwritten h = absurd (h refl)

number_of_block : (a : Value) → IsBlock a → place_number a ≢ 0
number_of_block (value.Word z) h e = h
number_of_block value.Null h e = h
number_of_block (value.Block b) h e = absurd (omega arith)
number_of_block value.Unwritten h e = h

pub same_block : (a b : Value) → place_number a ≢ 0 → place_number a ≡ place_number b → a ≡ b
same_block a b h e =
    let p = block_of a h in
    let q = block_of b (λ z. h (e ∙ z)) in
    let f : p.0 + 1 ≡ q.0 + 1 = ap place_number (sym p.1) ∙ e ∙ ap place_number q.1 in
    let g : p.0 ≡ q.0 = omega arith in
    p.1 ∙ ap value.Block g ∙ sym q.1

-- a variable with a block is a pointer
pub pointer_type : (s : Sort) (t : ValueType) (b : ℕ) → FitsSort s t (value.Block b) → (i : TypeId) × (t ≡ Pointer i)
pointer_type s (Pointer i) b h = (i, refl)
pointer_type Given Int b h = absurd h
pointer_type Cell Int b h = absurd h
pointer_type Input Int b h = absurd h
pointer_type Made Int b h = absurd h.0

made_block : (t : ValueType) (a : Value) → FitsSort Made t a → IsBlock a
made_block t a h = h.1

pub made_pointer : (a : Value) → FitsSort Made Int a → ⊥
made_pointer (value.Word z) h = h.1
made_pointer value.Null h = h.0
made_pointer (value.Block b) h = h.0
made_pointer value.Unwritten h = h.0

module _ (vars : List VarInfo) (few : length vars ≤ 65536) (v : Valuation) (f : Fits vars v) where
  abbrev pub labels : ℕ → ℕ
  labels = label (places_at v) (length vars)

  small : (u : ℕ) → labels u < 2 ^ 32
  small u = let h = first_below (places_at v) (length vars) (places_at v u) in omega arith

  node_inside : (x : ℕ) (i : VarInfo) → slice_get vars x ≡ Some i → x + 1 ≤ length vars
  node_inside x i g = let h = slice_get_within vars x i g in omega arith

  sort_of : (x : ℕ) (i : VarInfo) → slice_get vars x ≡ Some i → i.sort ≡ Made → FitsSort Made i.value (v x)
  sort_of x i g m = subst (λ s. FitsSort s i.value (v x)) m (f.sorts x i g)

  number_made : (x : ℕ) (i : VarInfo) → slice_get vars x ≡ Some i → i.sort ≡ Made → place_number (v x) ≢ 0
  number_made x i g m = number_of_block (v x) (made_block i.value (v x) (sort_of x i g m))

  types : (x y : ℕ) (i j : VarInfo) → slice_get vars x ≡ Some i → slice_get vars y ≡ Some j → labels (x + 1) ≡ labels (y + 1) → (i.value ≡ j.value) ⊎ (labels (x + 1) ≡ 0)
  types x y i j g h e = elim (cases_eq (place_number (v x)) 0) [
    | inl z ↦ inr (label_null (places_at v) (length vars) (x + 1) refl (places_after v x ∙ z))
    | inr z ↦
        let same = sym (places_after v x) ∙ same_label (places_at v) (length vars) (x + 1) (y + 1) (node_inside x i g) (node_inside y j h) e ∙ places_after v y in
        let p = block_of (v x) z in
        let q = sym (same_block (v x) (v y) z same) ∙ p.1 in
        let s = pointer_type i.sort i.value p.0 (subst (FitsSort i.sort i.value) p.1 (f.sorts x i g)) in
        let t = pointer_type j.sort j.value p.0 (subst (FitsSort j.sort j.value) q (f.sorts y j h)) in
        inl (s.1 ∙ ap Pointer (f.types x y i j s.0 t.0 p.0 g h s.1 t.1 p.1 q) ∙ sym t.1)
  ]

  pub are_place_numbers : ArePlaceNumbers vars labels
  are_place_numbers = record {
    null = label_null (places_at v) (length vars) 0 refl refl;
    small = small;
    types = types;
    pointers = λ x i g m t. made_pointer (v x) (subst (λ k. FitsSort Made k (v x)) t (sort_of x i g m));
    made = λ x i g m e. number_made x i g m (sym (places_after v x) ∙ null_label (places_at v) (length vars) (x + 1) (node_inside x i g) refl e);
    apart = λ x y i g m n l e.
        let j = slice_get-get_or vars y (record { sort = Given; value = Int }) l in
        f.made x y i (info_at vars y) g j m n
        (same_block (v x) (v y) (number_made x i g m)
        (sym (places_after v x) ∙ same_label (places_at v) (length vars) (x + 1) (y + 1) (node_inside x i g) (omega arith) e ∙ places_after v y));
  }

  pointer_node : (u : ℕ) → IsPointerNode vars u → u ≤ length vars
  pointer_node u h = elim (cases_eq u 0) [
    | inl e ↦ omega arith
    | inr e ↦ let l = pointer_inside vars (u - 1) (h (u - 1) (omega arith)) in omega arith
  ]

  pub places_hold : (ds : List Difference) → All (λ d. IsPointerNode vars d.from) ds → All (λ d. IsPointerNode vars d.to) ds → All (λ d. d.plus ≡ 0) ds →
      All (IsTrueOfPlaces v) ds → AllHold labels ds
  places_hold ds from to bare h = record {
    equal = λ i l e.
        let d = difference_at ds i in
        let z = bare i (record { from = 0; to = 0; plus = 0; equal = false }) l in
        let t = h i (record { from = 0; to = 0; plus = 0; equal = false }) l in
        let s : labels d.to ≡ labels d.from = label_same (places_at v) (length vars) d.to d.from (t.equal e) in
        omega arith;
    unequal = λ i l e k.
        let d = difference_at ds i in
        let z = bare i (record { from = 0; to = 0; plus = 0; equal = false }) l in
        let t = h i (record { from = 0; to = 0; plus = 0; equal = false }) l in
        let p = small d.from in
        let q = small d.to in
        let s : labels d.to ≡ labels d.from = omega arith in
        t.unequal e (same_label (places_at v) (length vars) d.to d.from
        (pointer_node d.to (to i (record { from = 0; to = 0; plus = 0; equal = false }) l))
        (pointer_node d.from (from i (record { from = 0; to = 0; plus = 0; equal = false }) l)) s);
  }

pub words_hold : (v : Valuation) (ds : List Difference) → All (IsTrueOfWords v) ds → AllHold (words_at v) ds
words_hold v ds h = record {
  equal = λ i l. (h i (record { from = 0; to = 0; plus = 0; equal = false }) l).equal;
  unequal = λ i l. (h i (record { from = 0; to = 0; plus = 0; equal = false }) l).unequal;
}

-- ---- the ends of differences are inside

pub int_node_inside : (vars : List VarInfo) (u : ℕ) → IsIntNode vars u → u < length vars + 1
int_node_inside vars u h = elim (cases_eq u 0) [
  | inl e ↦ omega arith
  | inr e ↦ let l = int_below vars (u - 1) (h (u - 1) (omega arith)) in omega arith
]

pub pointer_node_inside : (vars : List VarInfo) (u : ℕ) → IsPointerNode vars u → u < length vars + 1
pointer_node_inside vars u h = elim (cases_eq u 0) [
  | inl e ↦ omega arith
  | inr e ↦ let l = pointer_inside vars (u - 1) (h (u - 1) (omega arith)) in omega arith
]

pub ints_inside : (vars : List VarInfo) (ds : List Difference) → All (λ d. IsIntNode vars d.from) ds → All (λ d. IsIntNode vars d.to) ds → AreInside (length vars + 1) ds
ints_inside vars ds h k = record {
  from = λ i l. int_node_inside vars (difference_at ds i).from (h i (record { from = 0; to = 0; plus = 0; equal = false }) l);
  to = λ i l. int_node_inside vars (difference_at ds i).to (k i (record { from = 0; to = 0; plus = 0; equal = false }) l);
}

pub pointers_inside : (vars : List VarInfo) (ds : List Difference) → All (λ d. IsPointerNode vars d.from) ds → All (λ d. IsPointerNode vars d.to) ds → AreInside (length vars + 1) ds
pointers_inside vars ds h k = record {
  from = λ i l. pointer_node_inside vars (difference_at ds i).from (h i (record { from = 0; to = 0; plus = 0; equal = false }) l);
  to = λ i l. pointer_node_inside vars (difference_at ds i).to (k i (record { from = 0; to = 0; plus = 0; equal = false }) l);
}

pub bare_all : (ds : List Difference) → All (λ d. d.plus ≡ 0) ds → AreBare ds
bare_all ds h = λ i l. h i (record { from = 0; to = 0; plus = 0; equal = false }) l
