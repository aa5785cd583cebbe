-- A plain conjunct is true where its parts are.
use Rattle.std.proofs.Common.{◌≡◌, ℕ, suc, ◌+◌, List, refl, sym, ap, subst, ◌∙◌, arith}
use Rattle.std.proofs.lemmas.Option.{none-some, same_Some}
use Rattle.std.specs.Prelude.{Bool, true, false, Option, Some, None, All, IsSomeAnd, slice_get}
use Rattle.px_terms.specs.Polynomials.{Polynomial}
use Rattle.px_terms.specs.Variables.{variables_of}
use Rattle.px_terms.specs.Valuations.{Valuation, IsWord, IsPlace, IsUnwritten, FitsSort, Fits, numbers_of, number_of}
use Rattle.px_terms.specs.Conjuncts.{IsTrueUnder, IsPlain, IsWellSorted, IsIntVariable, IsPointerPlace, place_of}
use Rattle.px_terms.specs.declared.types.TypeId.{TypeId}
use Rattle.px_terms.specs.declared.types.ValueType.TheVariants.{Int, Pointer}
use Rattle.px_terms.specs.declared.types.Value.{Value}
use Rattle.px_terms.specs.declared.types.Value.TheVariants as value
use Rattle.px_terms.specs.declared.variables.Sort.{Sort}
use Rattle.px_terms.specs.declared.variables.Sort.TheVariants.{Given, Cell, Input, Made}
use Rattle.px_terms.specs.declared.variables.VarInfo.{VarInfo}
use Rattle.px_terms.specs.declared.conjuncts.Place.{Place}
use Rattle.px_terms.specs.declared.conjuncts.Place.TheVariants as place
use Rattle.px_terms.specs.declared.conjuncts.Conj.{Conj}
use Rattle.px_terms.specs.declared.conjuncts.Conj.TheVariants.{Equal, Unequal, Less, AtMost, SamePlace, OtherPlace, Written, Unwritten, Quotient}
use Rattle.px_plain.specs.declared.nodes.Difference.{Difference}
use Rattle.px_plain.specs.Readings.{of_sum, word_difference, place_difference, unwritten_node, written_node, node_of, same_or_other}
use Rattle.px_plain.specs.NodeValues.{words_at, places_at, place_number, IsWrittenNode, IsUnwrittenNode, IsTrueOfWords, IsTrueOfPlaces}
use Rattle.px_plain.proofs.Shapes.{Shape, shape_of, shape_plain, plain_read}
use Rattle.px_plain.proofs.SumMeanings.{AtEnds, above_of_zero, zero_of_above, ends_of_all, all_of_ends, plus_of}
use Rattle.px_terms.proofs.Tests.{never_both}

-- ---- values by sorts

pub fits_int : (s : Sort) (a : Value) → FitsSort s Int a → ¬ IsUnwritten a → IsWord a
fits_int Given (value.Word z) h n = tt
fits_int Given value.Null h n = absurd h
fits_int Given (value.Block b) h n = absurd h
fits_int Given value.Unwritten h n = absurd h
fits_int Cell (value.Word z) h n = tt
fits_int Cell value.Null h n = absurd h
fits_int Cell (value.Block b) h n = absurd h
fits_int Cell value.Unwritten h n = absurd (n tt)
fits_int Input (value.Word z) h n = tt
fits_int Input value.Null h n = absurd h
fits_int Input (value.Block b) h n = absurd h
fits_int Input value.Unwritten h n = absurd h
fits_int Made (value.Word z) h n = tt
fits_int Made value.Null h n = absurd h.0
fits_int Made (value.Block b) h n = absurd h.0
fits_int Made value.Unwritten h n = absurd h.0

pub fits_pointer : (s : Sort) (t : TypeId) (a : Value) → FitsSort s (Pointer t) a → ¬ IsUnwritten a → IsPlace a
fits_pointer Given t a h n = h
fits_pointer Cell t (value.Word z) h n = h
fits_pointer Cell t value.Null h n = h
fits_pointer Cell t (value.Block b) h n = h
fits_pointer Cell t value.Unwritten h n = absurd (n tt)
fits_pointer Input t a h n = h
fits_pointer Made t a h n = h.0

pub word_written : (a : Value) → IsWord a → ¬ IsUnwritten a
word_written (value.Word z) h k = k
word_written value.Null h k = h
word_written (value.Block b) h k = h
word_written value.Unwritten h k = h

place_written : (a : Value) → IsPlace a → ¬ IsUnwritten a
place_written (value.Word z) h k = h
place_written value.Null h k = k
place_written (value.Block b) h k = k
place_written value.Unwritten h k = h

pub info_of : (P : VarInfo → Type 0) (o : Option VarInfo) → IsSomeAnd o P → (i : VarInfo) × (o ≡ Some i) × P i
info_of P None h = absurd h
info_of P (Some i) h = (i, refl, h)

pub same_place : (a b : Value) → IsPlace a → IsPlace b → place_number a ≡ place_number b → a ≡ b
same_place value.Null value.Null h k e = refl
same_place value.Null (value.Block b) h k e = absurd (omega arith)
same_place (value.Block b) value.Null h k e = absurd (omega arith)
same_place (value.Block b) (value.Block c) h k e = let f : b ≡ c = omega arith in ap value.Block f
same_place (value.Word z) b h k e = absurd h
same_place value.Unwritten b h k e = absurd h
same_place value.Null (value.Word z) h k e = absurd k
same_place value.Null value.Unwritten h k e = absurd k
same_place (value.Block b) (value.Word z) h k e = absurd k
same_place (value.Block b) value.Unwritten h k e = absurd k

pub words_after : (v : Valuation) (x : ℕ) → words_at v (x + 1) ≡ number_of (v x)
words_after v x = let e : x + 1 ≡ suc x = omega arith in ap (words_at v) e

pub places_after : (v : Valuation) (x : ℕ) → places_at v (x + 1) ≡ place_number (v x)
places_after v x = let e : x + 1 ≡ suc x = omega arith in ap (places_at v) e

-- all parts of a conjunct are true
pub record PartsTrue (v : Valuation) (c : Conj) : Type 0 where
  pub word : (d : Difference) → word_difference c ≡ Some d → IsTrueOfWords v d
  pub place : (d : Difference) → place_difference c ≡ Some d → IsTrueOfPlaces v d
  pub unwritten : (u : ℕ) → unwritten_node c ≡ Some u → IsUnwrittenNode v u
  pub written : (u : ℕ) → written_node c ≡ Some u → IsWrittenNode v u

module _ (vars : List VarInfo) (v : Valuation) where
  -- ---- words

  ends_written : (d : Difference) → AtEnds (λ x. IsWord (v x)) d → ((x : ℕ) → d.from ≡ x + 1 → ¬ IsUnwritten (v x)) × ((x : ℕ) → d.to ≡ x + 1 → ¬ IsUnwritten (v x))
  ends_written d h = (λ x e. word_written (v x) (h.0 x e), λ x e. word_written (v x) (h.1 x e))

  int_word : Fits vars v → (x : ℕ) → IsIntVariable vars x → ¬ IsUnwritten (v x) → IsWord (v x)
  int_word f x h n =
      let i = info_of (λ (i : VarInfo). i.value ≡ Int) (slice_get vars x) h in
      fits_int i.0.sort (v x) (subst (λ t. FitsSort i.0.sort t (v x)) i.2 (f.sorts x i.0 i.1)) n

  words_of_ends : Fits vars v → (p : Polynomial) (d : Difference) (equal : Bool) → Shape p.constant equal p.monomials d → All (IsIntVariable vars) (variables_of p) →
      IsTrueOfWords v d → All (λ x. IsWord (v x)) (variables_of p)
  words_of_ends f p d equal s w t =
      let ints = ends_of_all p.constant equal (IsIntVariable vars) p.monomials d s w in
      all_of_ends p.constant equal (λ x. IsWord (v x)) p.monomials d s (λ x e. int_word f x (ints.0 x e) (t.from x e), λ x e. int_word f x (ints.1 x e) (t.to x e))

  equal_parts : (p : Polynomial) → (IsPlain (Equal p) → IsTrueUnder v (Equal p)) → (d : Difference) → of_sum p.constant true p.monomials ≡ Some d → IsTrueOfWords v d
  equal_parts p h d e =
      let s = shape_of p.constant true p.monomials d e in
      let t = h (shape_plain p.constant true p.monomials d s) in
      let w = ends_written d (ends_of_all p.constant true (λ x. IsWord (v x)) p.monomials d s t.0) in
      record {
        equal = λ q. above_of_zero p.constant true (numbers_of v) (words_at v) refl (words_after v) p.monomials d s t.1;
        unequal = λ q. absurd (never_both d.equal (plus_of p.constant true p.monomials d s).1 q);
        from = w.0;
        to = w.1;
      }

  unequal_parts : (p : Polynomial) → (IsPlain (Unequal p) → IsTrueUnder v (Unequal p)) → (d : Difference) → of_sum p.constant false p.monomials ≡ Some d → IsTrueOfWords v d
  unequal_parts p h d e =
      let s = shape_of p.constant false p.monomials d e in
      let t = h (shape_plain p.constant false p.monomials d s) in
      let w = ends_written d (ends_of_all p.constant false (λ x. IsWord (v x)) p.monomials d s t.0) in
      record {
        equal = λ q. absurd (never_both d.equal q (plus_of p.constant false p.monomials d s).1);
        unequal = λ q k. t.1 (zero_of_above p.constant false (numbers_of v) (words_at v) refl (words_after v) p.monomials d s k);
        from = w.0;
        to = w.1;
      }

  parts_equal : Fits vars v → (p : Polynomial) → IsWellSorted vars (Equal p) → ((d : Difference) → of_sum p.constant true p.monomials ≡ Some d → IsTrueOfWords v d) → IsPlain (Equal p) → IsTrueUnder v (Equal p)
  parts_equal f p w h k =
      let r = plain_read p.constant true p.monomials k in
      let s = shape_of p.constant true p.monomials r.0 r.1 in
      let t = h r.0 r.1 in (
        words_of_ends f p r.0 true s w t,
        zero_of_above p.constant true (numbers_of v) (words_at v) refl (words_after v) p.monomials r.0 s (t.equal (plus_of p.constant true p.monomials r.0 s).1),
      )

  parts_unequal : Fits vars v → (p : Polynomial) → IsWellSorted vars (Unequal p) → ((d : Difference) → of_sum p.constant false p.monomials ≡ Some d → IsTrueOfWords v d) → IsPlain (Unequal p) → IsTrueUnder v (Unequal p)
  parts_unequal f p w h k =
      let r = plain_read p.constant false p.monomials k in
      let s = shape_of p.constant false p.monomials r.0 r.1 in
      let t = h r.0 r.1 in (
        words_of_ends f p r.0 false s w t,
        λ z. t.unequal (plus_of p.constant false p.monomials r.0 s).1 (above_of_zero p.constant false (numbers_of v) (words_at v) refl (words_after v) p.monomials r.0 s z),
      )

  -- ---- places

  number_at : (a : Place) → places_at v (node_of a) ≡ place_number (place_of v a)
  number_at place.Null = refl
  number_at (place.Var x) = places_after v x.0

  written_at : (a : Place) → IsPlace (place_of v a) → IsWrittenNode v (node_of a)
  written_at place.Null h y e = absurd (omega arith)
  written_at (place.Var x) h y e = let f : x.0 ≡ y = omega arith in subst (λ k. ¬ IsUnwritten (v k)) f (place_written (v x.0) h)

  place_at : Fits vars v → (a : Place) → IsPointerPlace vars a → IsWrittenNode v (node_of a) → IsPlace (place_of v a)
  place_at f place.Null h w = tt
  place_at f (place.Var x) h w =
      let i = info_of (λ (i : VarInfo). (t : TypeId) × (i.value ≡ Pointer t)) (slice_get vars x.0) h in
      fits_pointer i.0.sort i.2.0 (v x.0) (subst (λ t. FitsSort i.0.sort t (v x.0)) i.2.1 (f.sorts x.0 i.0 i.1)) (w x.0 refl)

  same_parts : (a b : Place) → IsTrueUnder v (SamePlace a b) → IsTrueOfPlaces v (same_or_other a b true)
  same_parts a b t = record {
    equal = λ q. number_at b ∙ ap place_number (sym t.1) ∙ sym (number_at a);
    unequal = λ q. absurd (never_both true refl q);
    from = written_at a t.0.0;
    to = written_at b t.0.1;
  }

  other_parts : Fits vars v → (a b : Place) → IsTrueUnder v (OtherPlace a b) → IsTrueOfPlaces v (same_or_other a b false)
  other_parts f a b t = record {
    equal = λ q. absurd (never_both false q refl);
    unequal = λ q k. t.1 (same_place (place_of v a) (place_of v b) t.0.0 t.0.1 (sym (number_at a) ∙ sym k ∙ number_at b));
    from = written_at a t.0.0;
    to = written_at b t.0.1;
  }

  parts_same : Fits vars v → (a b : Place) → IsWellSorted vars (SamePlace a b) → IsTrueOfPlaces v (same_or_other a b true) → IsTrueUnder v (SamePlace a b)
  parts_same f a b w t =
      let p = place_at f a w.0 t.from in
      let q = place_at f b w.1 t.to in
      ((p, q), same_place (place_of v a) (place_of v b) p q (sym (number_at a) ∙ sym (t.equal refl) ∙ number_at b))

  parts_other : Fits vars v → (a b : Place) → IsWellSorted vars (OtherPlace a b) → IsTrueOfPlaces v (same_or_other a b false) → IsTrueUnder v (OtherPlace a b)
  parts_other f a b w t =
      let p = place_at f a w.0 t.from in
      let q = place_at f b w.1 t.to in
      ((p, q), λ e. t.unequal refl (number_at b ∙ ap place_number (sym e) ∙ sym (number_at a)))

  -- ---- kinds

  at_variable : (P : Value → Type 0) (x y : ℕ) → P (v x) → x + 1 ≡ y + 1 → P (v y)
  at_variable P x y h e = let f : x ≡ y = omega arith in subst (λ k. P (v k)) f h

  -- ---- any conjunct

  pub true_parts : Fits vars v → (c : Conj) → (IsPlain c → IsTrueUnder v c) → PartsTrue v c
  true_parts f (Equal p) h = record { word = equal_parts p h; place = λ d e. absurd (none-some d e); unwritten = λ u e. absurd (none-some u e); written = λ u e. absurd (none-some u e) }
  true_parts f (Unequal p) h = record { word = unequal_parts p h; place = λ d e. absurd (none-some d e); unwritten = λ u e. absurd (none-some u e); written = λ u e. absurd (none-some u e) }
  true_parts f (Less p q) h = record { word = λ d e. absurd (none-some d e); place = λ d e. absurd (none-some d e); unwritten = λ u e. absurd (none-some u e); written = λ u e. absurd (none-some u e) }
  true_parts f (AtMost p q) h = record { word = λ d e. absurd (none-some d e); place = λ d e. absurd (none-some d e); unwritten = λ u e. absurd (none-some u e); written = λ u e. absurd (none-some u e) }
  true_parts f (SamePlace a b) h = record {
    word = λ d e. absurd (none-some d e);
    place = λ d e. subst (IsTrueOfPlaces v) (same_Some (same_or_other a b true) d e) (same_parts a b (h tt));
    unwritten = λ u e. absurd (none-some u e);
    written = λ u e. absurd (none-some u e);
  }
  true_parts f (OtherPlace a b) h = record {
    word = λ d e. absurd (none-some d e);
    place = λ d e. subst (IsTrueOfPlaces v) (same_Some (same_or_other a b false) d e) (other_parts f a b (h tt));
    unwritten = λ u e. absurd (none-some u e);
    written = λ u e. absurd (none-some u e);
  }
  true_parts f (Written x) h = record {
    word = λ d e. absurd (none-some d e);
    place = λ d e. absurd (none-some d e);
    unwritten = λ u e. absurd (none-some u e);
    written = λ u e y q. at_variable (λ a. ¬ IsUnwritten a) x.0 y (h tt) (same_Some (x.0 + 1) u e ∙ q);
  }
  true_parts f (Unwritten x) h = record {
    word = λ d e. absurd (none-some d e);
    place = λ d e. absurd (none-some d e);
    unwritten = λ u e y q. at_variable IsUnwritten x.0 y (h tt) (same_Some (x.0 + 1) u e ∙ q);
    written = λ u e. absurd (none-some u e);
  }
  true_parts f (Quotient x p q) h = record { word = λ d e. absurd (none-some d e); place = λ d e. absurd (none-some d e); unwritten = λ u e. absurd (none-some u e); written = λ u e. absurd (none-some u e) }

  pub parts_true : Fits vars v → (c : Conj) → IsWellSorted vars c → PartsTrue v c → IsPlain c → IsTrueUnder v c
  parts_true f (Equal p) w h k = parts_equal f p w h.word k
  parts_true f (Unequal p) w h k = parts_unequal f p w h.word k
  parts_true f (Less p q) w h k = absurd k
  parts_true f (AtMost p q) w h k = absurd k
  parts_true f (SamePlace a b) w h k = parts_same f a b w (h.place (same_or_other a b true) refl)
  parts_true f (OtherPlace a b) w h k = parts_other f a b w (h.place (same_or_other a b false) refl)
  parts_true f (Written x) w h k = h.written (x.0 + 1) refl x.0 refl
  parts_true f (Unwritten x) w h k = h.unwritten (x.0 + 1) refl x.0 refl
  parts_true f (Quotient x p q) w h k = absurd k
