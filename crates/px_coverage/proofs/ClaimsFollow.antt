-- What is true of a callee's values, its caller may assume of what stands for them.
use Rattle.std.proofs.Common.{◌≡◌, ℕ, ◌<◌, Bool, true, false, Option, Some, None, List, [], ◌∷◌, length, slice_get, refl, sym, ap, ◌∙◌, subst, ap₂, ◌&&◌}
use Rattle.std.specs.Prelude.{All, ◌<ℤ◌, ◌≤ℤ◌, flat_map, fold}
use Rattle.std.specs.List.{list_all}
use Rattle.std.proofs.lemmas.Bool.{and_parts, and_from, lt-ltb, ltb-true}
use Rattle.std.proofs.lemmas.Option.{same_Some, slice_get_within}
use Rattle.px_terms.specs.Words.{signed, word_quotient}
use Rattle.px_terms.specs.Polynomials.{Polynomial, terms_of}
use Rattle.px_terms.specs.Substitutions.{content_for, image_by, substituted, substitution_of, variable}
use Rattle.px_terms.specs.Variables.{variables_of}
use Rattle.px_terms.specs.Valuations.{Valuation, IsWord, IsPlace, IsUnwritten, Fits}
use Rattle.px_terms.specs.Conjuncts.{word_of, place_of, HasWords, ArePlaces, IsTrueUnder}
use Rattle.px_terms.specs.declared.types.Value.TheVariants as value
use Rattle.px_terms.specs.declared.types.ValueType.{ValueType}
use Rattle.px_terms.specs.declared.variables.Var.{Var}
use Rattle.px_terms.specs.declared.variables.VarInfo.{VarInfo}
use Rattle.px_terms.specs.declared.conjuncts.Place.{Place as PlaceOf}
use Rattle.px_terms.specs.declared.conjuncts.Place.TheVariants as place
use Rattle.px_terms.specs.declared.conjuncts.Content.{Content}
use Rattle.px_terms.specs.declared.conjuncts.Content.TheVariants.{Unwritten, Word, Place, Cell}
use Rattle.px_terms.specs.declared.conjuncts.Conj.{Conj}
use Rattle.px_terms.specs.declared.conjuncts.Conj.TheVariants as conjunct
use Rattle.px_terms.proofs.NormalForm.{form_polynomial}
use Rattle.px_entry.specs.Sorts.{is_some_and, is_int, is_int_type, is_pointer_type, is_pointer_place, is_int_polynomial, has_type, same_type, is_cell_sort, is_well_sorted}
use Rattle.px_entry.specs.Standing.{content_value}
use Rattle.px_entry.proofs.Lists.{Each, each_all, all_each, each_from, each_to}
use Rattle.px_callgraph.specs.Renaming.{Substitution, is_word, word_through, place_in, place_through, Claim, surely, never, claims, claim_one, claim_two, written_claim, unwritten_claim, claim_through, is_claim_open, assume_claim, variable_in, quotient_claim}
use Rattle.px_soundness.proofs.WellFormed.{Good}
use Rattle.px_soundness.proofs.AtomHeaps.{absent}
use Rattle.px_soundness.proofs.Truths.{HasForm, variable_is}
use Rattle.px_soundness.proofs.Contents.{good_place}
use Rattle.px_soundness.proofs.Through.{stood, through, GoodSubstitution, good_for, word_is}
use Rattle.px_soundness.proofs.FitsThrough.{Suits, Stands, same_is, input_content}
use Rattle.px_soundness.proofs.CallReads.{only_cell}
use Rattle.px_soundness.proofs.WordsThrough.{HasImage, substitution_has}
use Rattle.px_coverage.proofs.Opens.{open_true, assume_true, good_words, good_ints, good_pointer}
use Rattle.px_callgraph.proofs.KeepLemmas.{each_weaker}
use Rattle.px_soundness.proofs.CallReady.{get_there}
use Rattle.px_soundness.proofs.ContentsThrough.{no_both}
use Rattle.px_soundness.proofs.ClaimsThrough.{place_not_unwritten}
use Rattle.px_entry.specs.Regular.{is_quotient_input}
use Rattle.std.proofs.lemmas.List.Elements.{All-head}
use Rattle.px_soundness.proofs.VariableWords.{variable_number}

module _ (vars : List VarInfo) (pure : List Conj) (v : Valuation) (fits : Fits vars v) (true_of : Each (IsTrueUnder v) pure) (xs : List VarInfo) (σ : Substitution) (good : GoodSubstitution vars pure v fits σ) (stands : Stands vars pure xs σ) where
  -- the caller may assume it
  abbrev pub MayBeAssumed : Claim → Type 0
  MayBeAssumed surely = Unit {0}
  MayBeAssumed never = ⊥
  MayBeAssumed (claims c) = (is_well_sorted vars c ≡ true) × HasForm c × IsTrueUnder v c

  type_of : (t : ValueType) (test : ValueType → Bool) (z : ℕ) → has_type vars t z ≡ true → test t ≡ true → is_some_and (slice_get vars z) (λ (i : VarInfo). test i.value) ≡ true
  type_of t test z h e =
      let (i, at, same) = variable_is vars (λ (i : VarInfo). same_type i.value t) z h in
      ap (λ (o : Option VarInfo). is_some_and o (λ (i : VarInfo). test i.value)) at ∙ ap test (same_is i.value t same) ∙ e

  -- ---- words

  stands_word : (o : Option Content) → ((c : Content) → o ≡ Some c → Good vars pure c) → IsWord (stood v o) → is_word o ≡ true
  stands_word None g h = absurd h
  stands_word (Some Unwritten) g h = absurd h
  stands_word (Some (Word p)) g h = refl
  stands_word (Some (Place a)) g h = absurd (no_both (place_of v a) (good_place vars pure v a fits true_of (g (Place a) refl)) h)
  stands_word (Some (Cell y)) g h = refl

  -- an `int` that has a word
  abbrev IsWordThere : ℕ → Type 0
  IsWordThere z = IsWord (v z) × (is_int vars z ≡ true)

  word_there : (y : ℕ) → is_int xs y ≡ true → IsWord (through v σ y) → HasImage IsWordThere σ y
  word_there y int h =
      let (i, at, is_int') = variable_is xs (λ (i : VarInfo). is_int_type i.value) y int in
      let (c, is, g, suits) = stands.content y i at in
      subst (λ o. All IsWordThere (variables_of (image_by y o))) (sym is) (by i is_int' c g suits (subst (λ o. IsWord (stood v o)) is h))
    where
      both : (ys : List ℕ) → Each (λ z. IsWord (v z)) ys → Each (λ z. is_int vars z ≡ true) ys → Each IsWordThere ys
      both [] p q = tt
      both (z ∷ ys) p q = ((p.0, q.0), both ys p.1 q.1)

      by : (i : VarInfo) → is_int_type i.value ≡ true → (c : Content) → Good vars pure c → Suits vars i.sort i.value c → IsWord (content_value v c) → All IsWordThere (variables_of (image_by y (Some c)))
      by i int Unwritten g suits h = absurd h
      by i int (Place a) g suits h = absurd (no_both (place_of v a) (good_place vars pure v a fits true_of g) h)
      by i int (Word q) g suits h =
          each_all IsWordThere (variables_of q)
          (both (variables_of q) (all_each (λ z. IsWord (v z)) (variables_of q) (good_words vars pure v fits true_of q g)) (each_from (is_int vars) (λ z. is_int vars z ≡ true) (λ z e. e) (variables_of q) (good_ints vars pure v fits true_of q g)))
      by i int (Cell z) g suits h = each_all IsWordThere (z.0 ∷ []) ((h, type_of i.value is_int_type z.0 (only_cell vars i.sort i.value z suits).1 int), tt)

  -- what comes in the place of the polynomial
  pub record WordThere (p : Polynomial) : Type 0 where
    pub polynomial : Polynomial
    pub is : word_through σ p ≡ Some polynomial
    pub ints : is_int_polynomial vars polynomial ≡ true
    pub words : HasWords v polynomial
    pub same : word_of v polynomial ≡ word_of (through v σ) p

  words_there : (ys : List ℕ) → list_all (is_int xs) ys ≡ true → Each (λ y. IsWord (through v σ y)) ys → Each (HasImage IsWordThere σ) ys
  words_there [] e h = tt
  words_there (y ∷ ys) e h = let b = and_parts (is_int xs y) (list_all (is_int xs) ys) e in (word_there y b.0 h.0, words_there ys b.1 h.1)

  polynomial_there : (p : Polynomial) → is_int_polynomial xs p ≡ true → HasWords (through v σ) p → WordThere p
  polynomial_there p int h =
      let ys = variables_of p in
      let q = substitution_of σ p in
      let words : Each (λ y. IsWord (through v σ y)) ys = all_each (λ y. IsWord (through v σ y)) ys h in
      let all : list_all (λ y. is_word (content_for σ y)) ys ≡ true = each_to (λ y. is_word (content_for σ y)) (λ y. IsWord (through v σ y)) (λ y k. stands_word (content_for σ y) (good_for vars pure v fits σ good y) k) ys words in
      let is : word_through σ p ≡ Some q = ap (λ b. elim b as (λ _. Option Polynomial) [ true ↦ Some (substitution_of σ p) | false ↦ None ]) all in
      let there : Each IsWordThere (variables_of q) = all_each IsWordThere (variables_of q) (substitution_has IsWordThere σ p (each_all (HasImage IsWordThere σ) ys (words_there ys int words))) in
      record {
        polynomial = q;
        is = is;
        ints = each_to (is_int vars) IsWordThere (λ z k. k.1) (variables_of q) there;
        words = each_all (λ z. IsWord (v z)) (variables_of q) (each_weaker IsWordThere (λ z. IsWord (v z)) (λ z k. k.0) (variables_of q) there);
        same = word_is vars pure v fits σ good p q is;
      }

  form_of : (p : Polynomial) (h : WordThere p) → HasForm (conjunct.Equal h.polynomial)
  form_of p h = by (list_all (λ y. is_word (content_for σ y)) (variables_of p)) h.is
    where
      by : (b : Bool) → (elim b as (λ _. Option Polynomial) [ true ↦ Some (substitution_of σ p) | false ↦ None ]) ≡ Some h.polynomial → HasForm (conjunct.Equal h.polynomial)
      by true e = subst (λ q. HasForm (conjunct.Equal q)) (same_Some _ _ e) (form_polynomial (flat_map (substituted σ) (terms_of p)))
      by false e = absent e

  one_word : (f : Polynomial → Conj) (p : Polynomial) (h : WordThere p) → MayBeAssumed (claims (f h.polynomial)) → MayBeAssumed (claim_one f (word_through σ p))
  one_word f p h m = subst (λ o. MayBeAssumed (claim_one f o)) (sym h.is) m

  two_words : (f : Polynomial → Polynomial → Conj) (p q : Polynomial) (h : WordThere p) (k : WordThere q) → MayBeAssumed (claims (f h.polynomial k.polynomial)) → MayBeAssumed (claim_two f (word_through σ p) (word_through σ q))
  two_words f p q h k m = subst (λ o. MayBeAssumed (claim_two f o (word_through σ q))) (sym h.is) (subst (λ o. MayBeAssumed (claim_two f (Some h.polynomial) o)) (sym k.is) m)

  -- ---- places

  pub record PlaceThere (a : PlaceOf) : Type 0 where
    pub pointer : PlaceOf
    pub is : place_through σ a ≡ Some pointer
    pub sorted : is_pointer_place vars pointer ≡ true
    pub same : place_of v pointer ≡ place_of (through v σ) a

  place_there : (a : PlaceOf) → is_pointer_place xs a ≡ true → IsPlace (place_of (through v σ) a) → PlaceThere a
  place_there place.Null e h = record { pointer = place.Null; is = refl; sorted = refl; same = refl }
  place_there (place.Var y) e h =
      let (i, at, pointer) = variable_is xs (λ (i : VarInfo). is_pointer_type i.value) y.0 e in
      let (c, is, g, suits) = stands.content y.0 i at in by i pointer c is g suits (subst (λ o. IsPlace (stood v o)) is h)
    where
      by : (i : VarInfo) → is_pointer_type i.value ≡ true → (c : Content) → content_for σ y.0 ≡ Some c → Good vars pure c → Suits vars i.sort i.value c → IsPlace (content_value v c) → PlaceThere (place.Var y)
      by i pointer Unwritten is g suits h = absurd h
      by i pointer (Word p) is g suits h = absurd h
      by i pointer (Place b) is g suits h = record { pointer = b; is = ap place_in is; sorted = good_pointer vars pure v fits true_of b g; same = sym (ap (stood v) is) }
      by i pointer (Cell z) is g suits h = record {
        pointer = place.Var z;
        is = ap place_in is;
        sorted = type_of i.value is_pointer_type z.0 (only_cell vars i.sort i.value z suits).1 pointer;
        same = sym (ap (stood v) is);
      }

  two_places : (f : PlaceOf → PlaceOf → Conj) (a b : PlaceOf) (h : PlaceThere a) (k : PlaceThere b) → MayBeAssumed (claims (f h.pointer k.pointer)) → MayBeAssumed (claim_two f (place_through σ a) (place_through σ b))
  two_places f a b h k m = subst (λ o. MayBeAssumed (claim_two f o (place_through σ b))) (sym h.is) (subst (λ o. MayBeAssumed (claim_two f (Some h.pointer) o)) (sym k.is) m)

  are_places : (a b : PlaceOf) (h : PlaceThere a) (k : PlaceThere b) → ArePlaces (through v σ) a b → ArePlaces v h.pointer k.pointer
  are_places a b h k (p, q) = (subst IsPlace (sym h.same) p, subst IsPlace (sym k.same) q)

  -- ---- what was written

  cell_below : (z : Var) → Good vars pure (Cell z) → is_well_sorted vars (conjunct.Written z) ≡ true
  cell_below z g = let (i, at, c) = variable_is vars (λ (i : VarInfo). is_cell_sort i.sort) z.0 g in lt-ltb z.0 (length vars) (slice_get_within vars z.0 i at)

  was_written : (o : Option Content) → ((c : Content) → o ≡ Some c → Good vars pure c) → (IsUnwritten (stood v o) → ⊥) → MayBeAssumed (written_claim o)
  was_written None g h = absurd (h tt)
  was_written (Some Unwritten) g h = absurd (h tt)
  was_written (Some (Word p)) g h = tt
  was_written (Some (Place a)) g h = tt
  was_written (Some (Cell z)) g h = (cell_below z (g (Cell z) refl), tt, h)

  was_unwritten : (c : Content) → Good vars pure c → IsUnwritten (content_value v c) → MayBeAssumed (unwritten_claim (Some c))
  was_unwritten Unwritten g h = tt
  was_unwritten (Word p) g h = absurd h
  was_unwritten (Place a) g h = absurd (place_not_unwritten (place_of v a) (good_place vars pure v a fits true_of g) h)
  was_unwritten (Cell z) g h = (cell_below z g, tt, h)

  -- ---- conjuncts

  pub claim_follows : (c : Conj) → is_well_sorted xs c ≡ true → is_quotient_input xs c ≡ true → IsTrueUnder (through v σ) c → MayBeAssumed (claim_through σ c)
  claim_follows (conjunct.Equal p) e r t = let h = polynomial_there p e t.0 in one_word conjunct.Equal p h (h.ints, form_of p h, (h.words, h.same ∙ t.1))
  claim_follows (conjunct.Unequal p) e r t = let h = polynomial_there p e t.0 in one_word conjunct.Unequal p h (h.ints, form_of p h, (h.words, λ z. t.1 (sym h.same ∙ z)))
  claim_follows (conjunct.Less p q) e r t =
      let b = and_parts (is_int_polynomial xs p) (is_int_polynomial xs q) e in
      let h = polynomial_there p b.0 t.0 in
      let k = polynomial_there q b.1 t.1 in
      two_words conjunct.Less p q h k (
        and_from _ _ h.ints k.ints,
        (form_of p h, form_of q k),
        (h.words, k.words, subst (λ m. signed m <ℤ signed (word_of v k.polynomial)) (sym h.same) (subst (λ m. signed (word_of (through v σ) p) <ℤ signed m) (sym k.same) t.2)),
      )
  claim_follows (conjunct.AtMost p q) e r t =
      let b = and_parts (is_int_polynomial xs p) (is_int_polynomial xs q) e in
      let h = polynomial_there p b.0 t.0 in
      let k = polynomial_there q b.1 t.1 in
      two_words conjunct.AtMost p q h k (
        and_from _ _ h.ints k.ints,
        (form_of p h, form_of q k),
        (h.words, k.words, subst (λ m. signed m ≤ℤ signed (word_of v k.polynomial)) (sym h.same) (subst (λ m. signed (word_of (through v σ) p) ≤ℤ signed m) (sym k.same) t.2)),
      )
  claim_follows (conjunct.SamePlace a b) e r t =
      let r = and_parts (is_pointer_place xs a) (is_pointer_place xs b) e in
      let h = place_there a r.0 t.0.0 in
      let k = place_there b r.1 t.0.1 in
      two_places conjunct.SamePlace a b h k (and_from _ _ h.sorted k.sorted, tt, (are_places a b h k t.0, h.same ∙ t.1 ∙ sym k.same))
  claim_follows (conjunct.OtherPlace a b) e r t =
      let r = and_parts (is_pointer_place xs a) (is_pointer_place xs b) e in
      let h = place_there a r.0 t.0.0 in
      let k = place_there b r.1 t.0.1 in
      two_places conjunct.OtherPlace a b h k (and_from _ _ h.sorted k.sorted, tt, (are_places a b h k t.0, λ z. t.1 (sym h.same ∙ z ∙ k.same)))
  claim_follows (conjunct.Written y) e r t = was_written (content_for σ y.0) (good_for vars pure v fits σ good y.0) t
  claim_follows (conjunct.Unwritten y) e r t =
      let (i, at) = get_there xs y.0 (ltb-true y.0 (length xs) e) in
      let (c, is, g, suits) = stands.content y.0 i at in
      subst (λ o. MayBeAssumed (unwritten_claim o)) (sym is) (was_unwritten c g (subst (λ o. IsUnwritten (stood v o)) is t))
  claim_follows (conjunct.Quotient y p q) e r t =
      let a = and_parts (is_int xs y.0) (is_int_polynomial xs p && is_int_polynomial xs q) e in
      let b = and_parts (is_int_polynomial xs p) (is_int_polynomial xs q) a.1 in
      let (m, is, input, g) = input_content vars pure xs σ stands y.0 r in
      let h = polynomial_there p b.0 t.1 in
      let k = polynomial_there q b.1 t.2 in
      let one = variable_number v (content_for σ y.0) (record { 0 = m }) (ap variable_in is) in
      subst (λ o. MayBeAssumed (quotient_claim (variable_in o) (word_through σ p) (word_through σ q))) (sym is)
      (two_words (conjunct.Quotient (record { 0 = m })) p q h k (
        and_from _ _ g.1.0.0 (and_from _ _ h.ints k.ints),
        (form_of p h, form_of q k),
        (
          All-head (λ x. IsWord (v x)) m [] (good_words vars pure v fits true_of (variable m) g),
          h.words,
          k.words,
          (λ z. t.3.0 (sym k.same ∙ z), sym one ∙ t.3.1 ∙ ap₂ word_quotient (sym h.same) (sym k.same)),
        ),
      ))

  -- ---- all of an entry

  pub are_open : (cs : List Conj) → list_all (is_well_sorted xs) cs ≡ true → list_all (is_quotient_input xs) cs ≡ true → Each (IsTrueUnder (through v σ)) cs → list_all (λ c. is_claim_open vars (claim_through σ c)) cs ≡ true
  are_open [] e r t = refl
  are_open (c ∷ cs) e r t =
      let d = and_parts (is_quotient_input xs c) (list_all (is_quotient_input xs) cs) r in
      let b = and_parts (is_well_sorted xs c) (list_all (is_well_sorted xs) cs) e in
      and_from _ _ (open_claim (claim_through σ c) (claim_follows c b.0 d.0 t.0)) (are_open cs b.1 d.1 t.1)
    where
      open_claim : (d : Claim) → MayBeAssumed d → is_claim_open vars d ≡ true
      open_claim surely m = refl
      open_claim never m = absurd m
      open_claim (claims c) m = open_true vars v fits c m.0 m.1 m.2

  pub all_assumed : (cs says : List Conj) → list_all (is_well_sorted xs) cs ≡ true → list_all (is_quotient_input xs) cs ≡ true → Each (IsTrueUnder (through v σ)) cs → Each (IsTrueUnder v) says → Each (IsTrueUnder v) (fold (λ ps c. assume_claim vars ps (claim_through σ c)) says cs)
  all_assumed [] says e r t h = h
  all_assumed (c ∷ cs) says e r t h =
      let d = and_parts (is_quotient_input xs c) (list_all (is_quotient_input xs) cs) r in
      let b = and_parts (is_well_sorted xs c) (list_all (is_well_sorted xs) cs) e in
      all_assumed cs (assume_claim vars says (claim_through σ c)) b.1 d.1 t.1 (assumed (claim_through σ c) (claim_follows c b.0 d.0 t.0))
    where
      assumed : (d : Claim) → MayBeAssumed d → Each (IsTrueUnder v) (assume_claim vars says d)
      assumed surely m = h
      assumed never m = absurd m
      assumed (claims c) m = assume_true vars says c v h m.2
