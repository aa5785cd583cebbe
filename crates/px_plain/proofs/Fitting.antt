-- The values of the nodes fit, and satisfy what was asked.
use Rattle.std.proofs.Common.{◌≡◌, ◌≢◌, ◌⊎◌, inl, inr, ℕ, ◌+◌, ◌-◌, ◌^◌, ◌<◌, List, length, get_or, refl, sym, ap, subst, ◌∙◌, arith}
use Rattle.std.specs.Prelude.{Bool, true, false, Some, All, slice_get}
use Rattle.std.specs.Int.{w32}
use Rattle.std.proofs.lemmas.Int.{of_z-to_z}
use borrow.Author.Gap.{read_sfits}
use Rattle.std.proofs.lemmas.Bool.{cases_eq, cases_lt, eq-eqb, ne_eqb}
use Rattle.std.proofs.lemmas.List.{get_or_default, get_or_past}
use Rattle.std.proofs.lemmas.Option.{slice_get_within, slice_get-get_or}
use Rattle.px_terms.specs.Words.{signed}
use Rattle.px_terms.specs.Valuations.{Valuation, valuation_of, IsUnwritten, IsBlock, IsPlace, FitsSort, Fits, number_of}
use Rattle.px_terms.specs.declared.types.TypeId.{TypeId}
use Rattle.px_terms.specs.declared.types.ValueType.{ValueType}
use Rattle.px_terms.specs.declared.types.ValueType.TheVariants.{Int, Pointer}
use Rattle.px_terms.specs.declared.types.Value.{Value}
use Rattle.px_terms.specs.declared.types.Value.TheVariants as value
use Rattle.px_terms.specs.declared.variables.Sort.{Sort}
use Rattle.px_terms.specs.declared.variables.Sort.TheVariants.{Given, Cell, Input, Made}
use Rattle.px_terms.specs.declared.variables.VarInfo.{VarInfo}
use Rattle.px_plain.specs.declared.nodes.Difference.{Difference}
use Rattle.px_plain.specs.Differences.{difference_at, AllHold}
use Rattle.px_plain.specs.Exclusions.{AreWords}
use Rattle.px_plain.specs.Marks.{MarksUnwritten, HasUnmarkedEnds}
use Rattle.px_plain.specs.Models.{place_of_number, value_of, AreValuesOf, IsModelOf}
use Rattle.px_plain.specs.NodeValues.{words_at, places_at, place_number, IsWrittenNode, IsUnwrittenNode, IsTrueOfWords, IsTrueOfPlaces, IsIntNode, IsPointerNode, AreSorted, Satisfies}
use Rattle.px_plain.specs.Places.{mark_at, ArePlaceNumbers}
use Rattle.px_plain.proofs.Meanings.{info_of, words_after, places_after}
use Rattle.px_plain.proofs.Placing.{info_at}
use Rattle.px_terms.proofs.Tests.{never_both}
use Rattle.px_terms.proofs.Places.{pointer_is}

-- ---- one value

pub number_of_place : (n : ℕ) → place_number (place_of_number n) ≡ n
number_of_place n = elim (cases_eq n 0) [
  | inl e ↦ let f : place_of_number n ≡ value.Null = rw (eq-eqb n 0 e) in ap place_number f ∙ sym e
  | inr e ↦ let f : place_of_number n ≡ value.Block (n - 1) = rw (ne_eqb n 0 e) in
      let g : (n - 1) + 1 ≡ n = omega arith in ap place_number f ∙ g
]

is_place_number : (n : ℕ) → IsPlace (place_of_number n)
is_place_number n = elim (cases_eq n 0) [
  | inl e ↦ let f : place_of_number n ≡ value.Null = rw (eq-eqb n 0 e) in subst IsPlace (sym f) tt
  | inr e ↦ let f : place_of_number n ≡ value.Block (n - 1) = rw (ne_eqb n 0 e) in subst IsPlace (sym f) tt
]

is_block_number : (n : ℕ) → n ≢ 0 → IsBlock (place_of_number n)
is_block_number n e = let f : place_of_number n ≡ value.Block (n - 1) = rw (ne_eqb n 0 e) in subst IsBlock (sym f) tt

fits_place : (s : Sort) (t : TypeId) (a : Value) → IsPlace a → (s ≡ Made → IsBlock a) → FitsSort s (Pointer t) a
fits_place Given t a h k = h
fits_place Cell t (value.Word z) h k = h
fits_place Cell t value.Null h k = h
fits_place Cell t (value.Block b) h k = h
fits_place Cell t value.Unwritten h k = tt
fits_place Input t a h k = h
fits_place Made t a h k = (h, k refl)

fits_word : (s : Sort) (w : ℕ) → ¬ (s ≡ Made) → FitsSort s Int (value.Word (signed w))
fits_word Given w n = read_sfits w32 w
fits_word Cell w n = read_sfits w32 w
fits_word Input w n = read_sfits w32 w
fits_word Made w n = absurd (n refl)

fits_value : (s : Sort) (t : ValueType) (m : Bool) (w p : ℕ) → (m ≡ true → s ≡ Cell) → (s ≡ Made → t ≢ Int) → (s ≡ Made → p ≢ 0) → FitsSort s t (value_of m t w p)
fits_value s t true w p c i n = subst (λ k. FitsSort k t value.Unwritten) (sym (c refl)) tt
fits_value s Int false w p c i n = fits_word s w (λ e. i e refl)
fits_value s (Pointer t) false w p c i n = fits_place s t (place_of_number p) (is_place_number p) (λ e. is_block_number p (n e))

-- the number of a value's place is that of its node, or 0
number_or_none : (t : ValueType) (m : Bool) (w p : ℕ) → (place_number (value_of m t w p) ≡ 0) ⊎ (place_number (value_of m t w p) ≡ p)
number_or_none t true w p = inl refl
number_or_none Int false w p = inl refl
number_or_none (Pointer t) false w p = inr (number_of_place p)

written_value : (t : ValueType) (m : Bool) (w p : ℕ) → m ≡ false → ¬ IsUnwritten (value_of m t w p)
written_value t true w p e h = never_both true refl e
written_value Int false w p e h = h
written_value (Pointer t) false w p e h = place_written (place_of_number p) (is_place_number p) h
  where
    place_written : (a : Value) → IsPlace a → ¬ IsUnwritten a
    place_written (value.Word z) h k = h
    place_written value.Null h k = k
    place_written (value.Block b) h k = k
    place_written value.Unwritten h k = h

pub word_value : (t : ValueType) (m : Bool) (w p : ℕ) → m ≡ false → t ≡ Int → w < 2 ^ 32 → number_of (value_of m t w p) ≡ w
word_value t true w p e i l = absurd (never_both true refl e)
word_value Int false w p e i l = of_z-to_z w32 w l
word_value (Pointer t) false w p e i l = absurd (cc)

place_value : (t : ValueType) (m : Bool) (w p : ℕ) (i : TypeId) → m ≡ false → t ≡ Pointer i → place_number (value_of m t w p) ≡ p
place_value t true w p i e f = absurd (never_both true refl e)
place_value Int false w p i e f = absurd (cc)
place_value (Pointer t) false w p i e f = number_of_place p

-- ---- all values

module _ (vars : List VarInfo) (ws ps : List Difference) (us rs : List ℕ) (marked : ℕ → Bool) (word number : ℕ → ℕ) (v : Valuation)
    (srt : AreSorted vars ws ps us rs)
    (cells : (x : ℕ) (i : VarInfo) → slice_get vars x ≡ Some i → marked (x + 1) ≡ true → i.sort ≡ Cell)
    (asked : (k : ℕ) → k < length us → marked (get_or us k 0) ≡ true)
    (we : (i : ℕ) → i < length ws → (marked (difference_at ws i).from ≡ false) × (marked (difference_at ws i).to ≡ false))
    (pe : (i : ℕ) → i < length ps → (marked (difference_at ps i).from ≡ false) × (marked (difference_at ps i).to ≡ false))
    (re : (i : ℕ) → i < length rs → marked (get_or rs i 0) ≡ false)
    (null_word : word 0 ≡ 0) (low : (k : ℕ) → word k < 2 ^ 32) (wh : AllHold word ws)
    (pn : ArePlaceNumbers vars number) (ph : AllHold number ps)
    (each : (x : ℕ) (i : VarInfo) → slice_get vars x ≡ Some i → v x ≡ value_of (marked (x + 1)) i.value (word (x + 1)) (number (x + 1))) where
  abbrev the_value : ℕ → VarInfo → Value
  the_value x i = value_of (marked (x + 1)) i.value (word (x + 1)) (number (x + 1))

  cell_of : (x : ℕ) (i : VarInfo) → slice_get vars x ≡ Some i → marked (x + 1) ≡ true → i.sort ≡ Cell
  cell_of x i g e = cells x i g e

  sorts : (x : ℕ) (i : VarInfo) → slice_get vars x ≡ Some i → FitsSort i.sort i.value (v x)
  sorts x i g = subst (FitsSort i.sort i.value) (sym (each x i g))
      (fits_value i.sort i.value (marked (x + 1)) (word (x + 1)) (number (x + 1)) (cell_of x i g) (pn.pointers x i g) (pn.made x i g))

  number_here : (x : ℕ) (i : VarInfo) → slice_get vars x ≡ Some i → (place_number (v x) ≡ 0) ⊎ (place_number (v x) ≡ number (x + 1))
  number_here x i g = subst (λ z. (place_number z ≡ 0) ⊎ (place_number z ≡ number (x + 1))) (sym (each x i g))
      (number_or_none i.value (marked (x + 1)) (word (x + 1)) (number (x + 1)))

  -- a block's number is that of its node
  number_block : (x : ℕ) (i : VarInfo) → slice_get vars x ≡ Some i → place_number (v x) ≢ 0 → place_number (v x) ≡ number (x + 1)
  number_block x i g n = elim (number_here x i g) [ inl e ↦ absurd (n e) | inr e ↦ e ]

  made_number : (a : Value) → IsBlock a → place_number a ≢ 0
  made_number (value.Word z) h e = h
  made_number value.Null h e = h
  made_number (value.Block b) h e = absurd (omega arith)
  made_number value.Unwritten h e = h

  made_here : (x : ℕ) (i : VarInfo) → slice_get vars x ≡ Some i → i.sort ≡ Made → place_number (v x) ≢ 0
  made_here x i g e = let h = subst (λ s. FitsSort s i.value (v x)) e (sorts x i g) in made_number (v x) h.1

  made : (x y : ℕ) (i j : VarInfo) → slice_get vars x ≡ Some i → slice_get vars y ≡ Some j → i.sort ≡ Made → x ≢ y → v x ≢ v y
  made x y i j g h e n q =
      let k = made_here x i g e in
      let s = ap place_number q in
      let o = number_block x i g k in
      let p = number_block y j h (λ z. k (s ∙ z)) in
      pn.apart x y i g e n (slice_get_within vars y j h) (sym o ∙ s ∙ p)

  types : (x y : ℕ) (i j : VarInfo) (s t : TypeId) (b : ℕ) → slice_get vars x ≡ Some i → slice_get vars y ≡ Some j
      → i.value ≡ Pointer s → j.value ≡ Pointer t → v x ≡ value.Block b → v y ≡ value.Block b → s ≡ t
  types x y i j s t b g h e f p q =
      let c : place_number (v x) ≡ b + 1 = ap place_number p in
      let d : place_number (v y) ≡ b + 1 = ap place_number q in
      let o = number_block x i g (λ z. absurd (omega arith)) in
      let r = number_block y j h (λ z. absurd (omega arith)) in
      let same : number (x + 1) ≡ number (y + 1) = omega arith in
      elim (pn.types x y i j g h same) [
        | inl z ↦ pointer_is (sym e ∙ z ∙ f)
        | inr z ↦ absurd (omega arith)
      ]

  pub fits : Fits vars v
  fits = record { sorts = sorts; made = made; types = types }

  -- ---- nodes

  info_inside : (x : ℕ) → x < length vars → (i : VarInfo) × (slice_get vars x ≡ Some i)
  info_inside x l = (info_at vars x, slice_get-get_or vars x (record { sort = Given; value = Int }) l)

  written : (u : ℕ) → marked u ≡ false → ((x : ℕ) → u ≡ x + 1 → x < length vars) → IsWrittenNode v u
  written u e l x q =
      let i = info_inside x (l x q) in
      subst (λ z. ¬ IsUnwritten z) (sym (each x i.0 i.1)) (written_value i.0.value (marked (x + 1)) (word (x + 1)) (number (x + 1)) (ap (marked) (sym q) ∙ e))

  word_at : (u : ℕ) → marked u ≡ false → IsIntNode vars u → words_at v u ≡ word u
  word_at u e h = elim (cases_eq u 0) [
    | inl z ↦ ap (words_at v) z ∙ sym null_word ∙ ap word (sym z)
    | inr z ↦
        let q : u ≡ (u - 1) + 1 = omega arith in
        let i = info_of (λ (i : VarInfo). i.value ≡ Int) (slice_get vars (u - 1)) (h (u - 1) q) in
        let l = slice_get_within vars (u - 1) i.0 i.1 in
        ap (words_at v) q ∙ words_after v (u - 1) ∙ ap number_of (each (u - 1) i.0 i.1)
        ∙ word_value i.0.value (marked ((u - 1) + 1)) (word ((u - 1) + 1)) (number ((u - 1) + 1)) (ap (marked) (sym q) ∙ e) i.2 (low ((u - 1) + 1))
        ∙ ap word (sym q)
  ]

  place_at : (u : ℕ) → marked u ≡ false → IsPointerNode vars u → places_at v u ≡ number u
  place_at u e h = elim (cases_eq u 0) [
    | inl z ↦ ap (places_at v) z ∙ sym (pn.null) ∙ ap number (sym z)
    | inr z ↦
        let q : u ≡ (u - 1) + 1 = omega arith in
        let i = info_of (λ (i : VarInfo). (t : TypeId) × (i.value ≡ Pointer t)) (slice_get vars (u - 1)) (h (u - 1) q) in
        ap (places_at v) q ∙ places_after v (u - 1) ∙ ap place_number (each (u - 1) i.0 i.1)
        ∙ place_value i.0.value (marked ((u - 1) + 1)) (word ((u - 1) + 1)) (number ((u - 1) + 1)) i.2.0 (ap (marked) (sym q) ∙ e) i.2.1
        ∙ ap number (sym q)
  ]

  -- ---- differences

  abbrev none : Difference
  none = record { from = 0; to = 0; plus = 0; equal = false }

  words_hold : All (IsTrueOfWords v) ws
  words_hold k d l =
      subst (IsTrueOfWords v) (get_or_default ws k none d l)
      (let e = difference_at ws k in
      let n = we k l in
      let i = srt.word_from k none l in
      let j = srt.word_to k none l in
      let p = word_at e.from n.0 i in
      let q = word_at e.to n.1 j in
      record {
        equal = λ b. let h = wh.equal k l b in omega arith;
        unequal = λ b z. wh.unequal k l b (omega arith);
        from = written e.from n.0 (λ x o. let r = info_of (λ (i : VarInfo). i.value ≡ Int) (slice_get vars x) (i x o) in slice_get_within vars x r.0 r.1);
        to = written e.to n.1 (λ x o. let r = info_of (λ (i : VarInfo). i.value ≡ Int) (slice_get vars x) (j x o) in slice_get_within vars x r.0 r.1);
      })

  places_hold : All (IsTrueOfPlaces v) ps
  places_hold k d l =
      subst (IsTrueOfPlaces v) (get_or_default ps k none d l)
      (let e = difference_at ps k in
      let n = pe k l in
      let i = srt.place_from k none l in
      let j = srt.place_to k none l in
      let p = place_at e.from n.0 i in
      let q = place_at e.to n.1 j in
      let z = srt.bare k none l in
      let r = pn.small e.from in
      let s = pn.small e.to in
      record {
        equal = λ b. let h = ph.equal k l b in omega arith;
        unequal = λ b y. ph.unequal k l b (omega arith);
        from = written e.from n.0 (λ x o. let r = info_of (λ (i : VarInfo). (t : TypeId) × (i.value ≡ Pointer t)) (slice_get vars x) (i x o) in slice_get_within vars x r.0 r.1);
        to = written e.to n.1 (λ x o. let r = info_of (λ (i : VarInfo). (t : TypeId) × (i.value ≡ Pointer t)) (slice_get vars x) (j x o) in slice_get_within vars x r.0 r.1);
      })

  unwritten_here : (x : ℕ) → x < length vars → marked (x + 1) ≡ true → IsUnwritten (v x)
  unwritten_here x l e =
      let i = info_inside x l in
      subst IsUnwritten (sym (each x i.0 i.1)) (subst (λ b. IsUnwritten (value_of b i.0.value (word (x + 1)) (number (x + 1)))) (sym e) tt)

  are_unwritten : All (IsUnwrittenNode v) us
  are_unwritten k d l x q =
      let s = get_or_default us k d 0 l in
      let r = srt.are_variables k d l in
      let o : r.0 ≡ x = let z = r.1 in omega arith in
      unwritten_here x (subst (λ z. z < length vars) o r.2) (ap (marked) (sym q ∙ s) ∙ asked k l)

  are_written : All (IsWrittenNode v) rs
  are_written k d l =
      let s = get_or_default rs k d 0 l in
      written (get_or rs k d) (ap (marked) s ∙ re k l) (λ x q. let i = srt.inside k d l in omega arith)

  pub satisfies : Satisfies v ws ps us rs
  satisfies = record { words_hold = words_hold; places_hold = places_hold; are_unwritten = are_unwritten; are_written = are_written }

-- ---- values in lists

word_below : (n : ℕ) (words : List ℕ) → AreWords n words → (k : ℕ) → get_or words k 0 < 2 ^ 32
word_below n words a k = elim (cases_lt k (length words)) [
  | inl l ↦ a.words k 0 l
  | inr l ↦ let e = get_or_past words k 0 l in omega arith
]

pub model : (vars : List VarInfo) (ws ps : List Difference) (us rs : List ℕ) (marks : List Bool) (words numbers : List ℕ) (vs : List Value) →
    AreSorted vars ws ps us rs → MarksUnwritten vars us (length us) marks →
    ((i : ℕ) → i < length ws → HasUnmarkedEnds marks (difference_at ws i)) →
    ((i : ℕ) → i < length ps → HasUnmarkedEnds marks (difference_at ps i)) →
    ((i : ℕ) → i < length rs → mark_at marks (get_or rs i 0) ≡ false) →
    AreWords (length vars + 1) words → AllHold (λ k. get_or words k 0) ws →
    ArePlaceNumbers vars (λ k. get_or numbers k 0) → AllHold (λ k. get_or numbers k 0) ps →
    AreValuesOf vars marks words numbers vs → IsModelOf vars ws ps us rs vs
model vars ws ps us rs marks words numbers vs srt m we pe re aw wh pn ph a =
    let word : ℕ → ℕ = λ k. get_or words k 0 in
    let number : ℕ → ℕ = λ k. get_or numbers k 0 in
    let cells : (x : ℕ) (i : VarInfo) → slice_get vars x ≡ Some i → mark_at marks (x + 1) ≡ true → i.sort ≡ Cell = λ x i g e. m.cells x i e g in
    record {
      size = a.size;
      fits = fits vars ws ps us rs (mark_at marks) word number (valuation_of vs) srt cells m.all we pe re aw.zero (word_below (length vars + 1) words aw) wh pn ph a.each;
      satisfies = satisfies vars ws ps us rs (mark_at marks) word number (valuation_of vs) srt cells m.all we pe re aw.zero (word_below (length vars + 1) words aw) wh pn ph a.each;
    }
