-- A stack that stands for a list shows values under which its plain conjuncts are true.
use Rattle.std.proofs.Common.{◌≡◌, ◌⊎◌, inl, inr, ℕ, ◌+◌, ◌-◌, ◌%◌, ◌^◌, ◌<◌, ◌≤◌, List, [], length, get_or, refl, sym, ap, ◌∙◌, arith}
use Rattle.std.specs.Prelude.{Bool, true, false, Some, All, slice_get}
use Rattle.std.proofs.lemmas.Bool.{cases_eq}
use Rattle.std.proofs.lemmas.Option.{slice_get_within, slice_get-get_or}
use Rattle.px_terms.specs.Conjuncts.{IsWellSorted}
use Rattle.px_terms.specs.declared.types.ValueType.TheVariants.{Int}
use Rattle.px_terms.specs.declared.variables.VarInfo.{VarInfo}
use Rattle.px_terms.specs.declared.variables.Sort.TheVariants.{Made, Given}
use Rattle.px_terms.specs.declared.conjuncts.Conj.{Conj}
use Rattle.px_plain.specs.declared.nodes.Difference.{Difference}
use Rattle.px_plain.specs.declared.trees.Tree.{Tree}
use Rattle.px_plain.specs.declared.claims.Mark.{Mark}
use Rattle.px_plain.specs.declared.claims.Mark.TheVariants as mark
use Rattle.px_plain.specs.Differences.{difference_at, AreInside, AreBare}
use Rattle.px_plain.specs.Models.{IsPlainlyRefuted}
use Rattle.px_plain.specs.Places.{ArePlaceNumbers}
use Rattle.px_plain.specs.Trees.{Flat, KeepsFlat, AreOne}
use Rattle.px_plain.specs.Joins.{AllApart}
use Rattle.px_plain.specs.Steps.{Content, mark_at}
use Rattle.px_plain.specs.Stands.{ArePlacesApart, ArePlaced, Stands}
use Rattle.px_plain.proofs.FreeWords.{free_words}
use Rattle.px_plain.proofs.Placing.{info_at}
use Rattle.px_plain.proofs.Solutions.{not_refuted_with}

-- ---- the roots of places as numbers

module _ (vars : List VarInfo) (owners : List Bool) (apart : List ℕ) (t : List Tree) (size : length t ≡ length vars + 1) (few : length vars ≤ 65536) (f : Flat t) (p : ArePlaced vars owners apart f) where
  abbrev pub number : ℕ → ℕ
  number v = f.root v % 2 ^ 32

  number_is : (v : ℕ) → v < length t → number v ≡ f.root v
  number_is v l = let i = f.inside v l in omega arith

  info : (x : ℕ) → x < length vars → slice_get vars x ≡ Some (info_at vars x)
  info x l = slice_get-get_or vars x (record { sort = Given; value = Int }) l

  node : (x : ℕ) (i : VarInfo) → slice_get vars x ≡ Some i → x + 1 < length t
  node x i g = let l = slice_get_within vars x i g in omega arith

  types : (x y : ℕ) (i j : VarInfo) → slice_get vars x ≡ Some i → slice_get vars y ≡ Some j → number (x + 1) ≡ number (y + 1) → (i.value ≡ j.value) ⊎ (number (x + 1) ≡ 0)
  types x y i j g h e =
      let a = number_is (x + 1) (node x i g) in
      let b = number_is (y + 1) (node y j h) in
      let c = f.inside (x + 1) (node x i g) in
      elim (cases_eq (f.root (x + 1)) 0) [
        | inl z ↦ inr (a ∙ z)
        | inr z ↦
            let q : f.root (x + 1) ≡ (f.root (x + 1) - 1) + 1 = omega arith in
            let k = info (f.root (x + 1) - 1) (omega arith) in
            inl (p.types x (f.root (x + 1) - 1) i (info_at vars (f.root (x + 1) - 1)) g k q
            ∙ sym (p.types y (f.root (x + 1) - 1) j (info_at vars (f.root (x + 1) - 1)) h k (sym b ∙ sym e ∙ a ∙ q)))
      ]

  alone : (x : ℕ) (i : VarInfo) → slice_get vars x ≡ Some i → i.sort ≡ Made → f.root (x + 1) ≡ x + 1
  alone x i g m =
      let l = node x i g in
      p.made x i g m (f.root (x + 1)) (f.inside (x + 1) l) (f.here (f.root (x + 1)) (f.inside (x + 1) l) (f.is_root (x + 1) l))

  pub are_numbers : ArePlaceNumbers vars number
  are_numbers = record {
    null = let e = number_is 0 (omega arith) in let n = p.null in omega arith;
    small = λ v. omega arith;
    types = types;
    pointers = p.pointers;
    made = λ x i g m e. let a = number_is (x + 1) (node x i g) in let b = alone x i g m in absurd (omega arith);
    apart = λ x y i g m n l e.
        let a = number_is (x + 1) (node x i g) in
        let b = number_is (y + 1) (omega arith) in
        let q = p.made x i g m (y + 1) (omega arith) (sym b ∙ sym e ∙ a) in
        absurd (omega arith);
  }

  pub keeps_numbers : KeepsFlat number f
  keeps_numbers v l =
      let i = f.inside v l in
      let a = number_is v l in
      let b = number_is (f.root v) i in
      let r = f.here (f.root v) i (f.is_root v l) in
      let z = p.level v l in
      omega arith

  pub numbers_apart : (us : List Difference) → AreInside (length t) us → AreBare us → ((j : ℕ) → j < length us → ¬ AreOne f (difference_at us j)) → AllApart number us
  numbers_apart us i b s j l h =
      let d = difference_at us j in
      let from = i.from j l in
      let to = i.to j l in
      let x = number_is d.from from in
      let y = number_is d.to to in
      let z = p.level d.from from in
      let w = p.level d.to to in
      let q = b j l in
      let m = f.inside d.from from in
      let n = f.inside d.to to in
      s j l (omega arith, omega arith)

  pub places_apart : ArePlacesApart number apart
  places_apart = record {
    null = λ i l h.
        let x = number_is (get_or apart i 0 + 1) (p.inside i l) in
        let y = number_is 0 (omega arith) in
        let n = p.null in
        let m = f.inside (get_or apart i 0 + 1) (p.inside i l) in
        p.some i l (omega arith);
    pairs = λ i j b l h.
        let k : i < length apart = omega arith in
        let x = number_is (get_or apart i 0 + 1) (p.inside i k) in
        let y = number_is (get_or apart j 0 + 1) (p.inside j l) in
        let m = f.inside (get_or apart i 0 + 1) (p.inside i k) in
        let n = f.inside (get_or apart j 0 + 1) (p.inside j l) in
        p.distinct i j b l (omega arith);
  }

-- ---- all values

abbrev is_void : Mark → Bool
is_void mark.Free = false
is_void mark.Written = false
is_void mark.Unwritten = true

unwritten_of : (m : Mark) → is_void m ≡ true → m ≡ mark.Unwritten
unwritten_of mark.Free e = absurd (cc)
unwritten_of mark.Written e = absurd (cc)
unwritten_of mark.Unwritten e = refl

none_apart : (w : ℕ → ℕ) → ArePlacesApart w []
none_apart w = record { null = λ i l. absurd (omega arith); pairs = λ i j b l. absurd (omega arith) }

pub not_refuted_yet : (vars : List VarInfo) (apart : List ℕ) (cs : List Conj) (count : ℕ) (c : Content) → All (IsWellSorted vars) cs → length vars ≤ 65536 → count ≤ 65536 →
    length c.places ≡ length vars + 1 → Stands vars apart cs count c → ¬ IsPlainlyRefuted vars cs
not_refuted_yet vars apart cs count c sorted few room size s =
    let short = s.few_words in
    let w = free_words c.words s.words.flat c.unequal_words s.words.inside s.words.separate (omega arith) in
    let f = s.places.flat in
    let num : ℕ → ℕ = number vars c.owners apart c.places size few f s.placed in
    let void : ℕ → Bool = λ u. is_void (mark_at c.marks u) in
    not_refuted_with vars cs sorted few (record {
      word = w.0;
      number = num;
      void = void;
      numbers = are_numbers vars c.owners apart c.places size few f s.placed;
      cells = λ x i e g. s.marks.cells x i (unwritten_of (mark_at c.marks (x + 1)) e) g;
      equal_words = s.words.back w.0 w.1;
      unequal_words = s.words.unequal_back w.0 w.2 (none_apart w.0);
      equal_places = s.places.back num (keeps_numbers vars c.owners apart c.places size few f s.placed);
      unequal_places = s.places.unequal_back num (numbers_apart vars c.owners apart c.places size few f s.placed c.unequal_places s.places.inside s.bare s.places.separate)
          (places_apart vars c.owners apart c.places size few f s.placed);
      marks = s.marks.back void (record { unwritten = λ u e. ap is_void e; written = λ u e. ap is_void e });
    })
