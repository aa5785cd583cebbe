-- What a stack holds after a variable was added.
use Rattle.std.proofs.Common.{◌≡◌, ◌⊎◌, inl, inr, ℕ, ◌+◌, ◌*◌, ◌<◌, List, [], ◌∷◌, ◌++◌, length, length-append, map, refl, sym, ap, subst, ◌∙◌, arith}
use Rattle.std.specs.Prelude.{Bool, true, false, Some, All, IsSomeAnd, slice_get}
use Rattle.std.proofs.lemmas.List.{get_or_push}
use Rattle.std.proofs.lemmas.List.Elements.{All-nil, All-cons, All-head, All-tail, All-weaker, All-map}
use Rattle.std.proofs.lemmas.Option.{slice_get-get_or}
use Rattle.px_terms.proofs.Evaluation.{All-left, All-right}
use Rattle.px_terms.specs.Polynomials.{Polynomial}
use Rattle.px_terms.specs.Variables.{variables_of}
use Rattle.px_terms.specs.Conjuncts.{IsWellSorted, IsIntVariable, IsPointerVariable, IsIntPolynomial, IsPointerPlace}
use Rattle.px_terms.specs.Valuations.{Valuation, Fits, FitsSort}
use Rattle.px_terms.specs.declared.types.TypeId.{TypeId}
use Rattle.px_terms.specs.declared.types.ValueType.TheVariants.{Int, Pointer}
use Rattle.px_terms.specs.declared.variables.VarInfo.{VarInfo}
use Rattle.px_terms.specs.declared.variables.Sort.TheVariants.{Made, Given}
use Rattle.px_terms.specs.declared.conjuncts.Place.{Place}
use Rattle.px_terms.specs.declared.conjuncts.Place.TheVariants as place
use Rattle.px_terms.specs.declared.conjuncts.Conj.{Conj}
use Rattle.px_terms.specs.declared.conjuncts.Conj.TheVariants.{Equal, Unequal, Less, AtMost, SamePlace, OtherPlace, Written, Unwritten, Quotient}
use Rattle.px_plain.specs.declared.claims.Mark.TheVariants as mark
use Rattle.px_plain.specs.declared.claims.Step.TheVariants as step
use Rattle.px_plain.specs.Models.{IsPlainlyRefuted}
use Rattle.px_plain.specs.Places.{ArePlaceNumbers}
use Rattle.px_plain.specs.Readings.{word_difference, place_difference}
use Rattle.px_plain.specs.Held.{HeldItem, OfVar, OfConj, OfApart, held_vars, held_apart, held_conjuncts, held_count, apart_conjuncts, place_of_variable}
use Rattle.px_plain.specs.Steps.{Content, before, last_step, is_refuted}
use Rattle.px_plain.specs.Stacks.{IsMadeInt, node_of_size, with_node}
use Rattle.px_plain.specs.Stands.{AnyWords, Stands, IsAnswered, IsOf, HoldsItems}
use Rattle.px_plain.proofs.ChangedStacks.{front_push}
use Rattle.px_plain.proofs.ContentLemmas.{same_content}
use Rattle.px_plain.proofs.Labelled.{made_pointer}
use Rattle.px_plain.proofs.MarksHeld.{marks_more}
use Rattle.px_plain.proofs.Meanings.{info_of}
use Rattle.px_plain.proofs.MoreNodes.{ranked_more, rank_more, solves_more}
use Rattle.px_plain.proofs.PlacesHeld.{kept_var, placed_more}
use Rattle.px_plain.proofs.StackSteps.{with_step, step_holds, stands_with}
use Rattle.px_plain.proofs.TakenClaims.{unrefuted, refuted, places_size, marks_size, owners_size}

-- ---- sorts over more variables

module _ (vars : List VarInfo) (info : VarInfo) where
  abbrev all : List VarInfo
  all = vars ++ info ∷ []

  still_some : (P : VarInfo → Type 0) (x : ℕ) → IsSomeAnd (slice_get vars x) P → IsSomeAnd (slice_get all x) P
  still_some P x h =
      let i = info_of P (slice_get vars x) h in
      subst (λ o. IsSomeAnd o P) (sym (kept_var vars info x i.0 i.1)) i.2

  int_more : (x : ℕ) → IsIntVariable vars x → IsIntVariable all x
  int_more x h = still_some (λ (i : VarInfo). i.value ≡ Int) x h

  pointer_more : (x : ℕ) → IsPointerVariable vars x → IsPointerVariable all x
  pointer_more x h = still_some (λ (i : VarInfo). (t : TypeId) × (i.value ≡ Pointer t)) x h

  ints_more : (p : Polynomial) → IsIntPolynomial vars p → IsIntPolynomial all p
  ints_more p h = All-weaker (IsIntVariable vars) (IsIntVariable all) int_more (variables_of p) h

  place_more : (a : Place) → IsPointerPlace vars a → IsPointerPlace all a
  place_more place.Null h = tt
  place_more (place.Var x) h = pointer_more x.0 h

  inside_more : (x : ℕ) → x < length vars → x < length all
  inside_more x l = let n = length-append vars (info ∷ []) in omega arith

  pub sorted_more : (c : Conj) → IsWellSorted vars c → IsWellSorted all c
  sorted_more (Equal p) h = ints_more p h
  sorted_more (Unequal p) h = ints_more p h
  sorted_more (Less p q) h = (ints_more p h.0, ints_more q h.1)
  sorted_more (AtMost p q) h = (ints_more p h.0, ints_more q h.1)
  sorted_more (SamePlace a b) h = (place_more a h.0, place_more b h.1)
  sorted_more (OtherPlace a b) h = (place_more a h.0, place_more b h.1)
  sorted_more (Written x) h = inside_more x.0 h
  sorted_more (Unwritten x) h = inside_more x.0 h
  sorted_more (Quotient x p q) h = (int_more x.0 h.0, ints_more p h.1, ints_more q h.2)

  -- ---- what fits more variables fits fewer

  pub fewer_numbers : (w : ℕ → ℕ) → ArePlaceNumbers all w → ArePlaceNumbers vars w
  fewer_numbers w a = record {
    null = a.null;
    small = a.small;
    types = λ x y i j g h e. a.types x y i j (kept_var vars info x i g) (kept_var vars info y j h) e;
    pointers = λ x i g m. a.pointers x i (kept_var vars info x i g) m;
    made = λ x i g m. a.made x i (kept_var vars info x i g) m;
    apart = λ x y i g m n l. a.apart x y i (kept_var vars info x i g) m n (inside_more y l);
  }

  fits_fewer : (v : Valuation) → Fits all v → Fits vars v
  fits_fewer v f = record {
    sorts = λ x i g. f.sorts x i (kept_var vars info x i g);
    made = λ x y i j g h. f.made x y i j (kept_var vars info x i g) (kept_var vars info y j h);
    types = λ x y i j s t b g h. f.types x y i j s t b (kept_var vars info x i g) (kept_var vars info y j h);
  }

  pub still_refuted : (cs : List Conj) → IsPlainlyRefuted vars cs → IsPlainlyRefuted all cs
  still_refuted cs r v f m = r v (fits_fewer v f) m

  pub made_refuted : (cs : List Conj) → IsMadeInt info → IsPlainlyRefuted all cs
  made_refuted cs h v f m =
      let d : VarInfo = record { sort = Given; value = Int } in
      let n = length-append vars (info ∷ []) in
      let g = slice_get-get_or all (length vars) d (omega arith) ∙ ap Some (get_or_push vars info d (length vars) refl) in
      let s = f.sorts (length vars) info g in
      made_pointer (v (length vars)) (subst (λ t. FitsSort Made t (v (length vars))) h.1 (subst (λ k. FitsSort k info.value (v (length vars))) h.0 s))

-- ---- places that are apart are pointers

pub pointers_apart : (vars : List VarInfo) (items : List HeldItem) → All (IsWellSorted vars) (held_conjuncts items) → All (IsPointerVariable vars) (held_apart items)
pointers_apart vars [] h = All-nil (IsPointerVariable vars)
pointers_apart vars (OfVar i ∷ items) h = pointers_apart vars items h
pointers_apart vars (OfConj c ∷ items) h = pointers_apart vars items (All-tail (IsWellSorted vars) c (held_conjuncts items) h)
pointers_apart vars (OfApart x ∷ items) h = All-cons (IsPointerVariable vars) x (held_apart items)
    (All-head (IsWellSorted vars) (OtherPlace (place_of_variable x) place.Null) (map (λ y. OtherPlace (place_of_variable x) (place_of_variable y)) (held_apart items))
    (All-left (IsWellSorted vars) (apart_conjuncts x (held_apart items)) (held_conjuncts items) h)).0
    (pointers_apart vars items (All-right (IsWellSorted vars) (apart_conjuncts x (held_apart items)) (held_conjuncts items) h))

pub apart_well_sorted : (vars : List VarInfo) (x : ℕ) (ys : List ℕ) → IsPointerVariable vars x → All (IsPointerVariable vars) ys → All (IsWellSorted vars) (apart_conjuncts x ys)
apart_well_sorted vars x ys p h = All-cons (IsWellSorted vars) (OtherPlace (place_of_variable x) place.Null) (map (λ y. OtherPlace (place_of_variable x) (place_of_variable y)) ys) (p, tt)
    (All-map (IsWellSorted vars) (λ y. OtherPlace (place_of_variable x) (place_of_variable y)) ys (λ k d l. (p, h k d l)))

-- ---- the variable

module _ (c : Content) (items : List HeldItem) (h : HoldsItems c items) (g : IsOf c items) (info : VarInfo) (few : length (held_vars items) < 65536) where
  abbrev vars : List VarInfo
  vars = held_vars items

  abbrev now : List VarInfo
  now = vars ++ info ∷ []

  -- with the node of places of this size
  abbrev with_size : ℕ → Content
  with_size n = record (with_node c info) { places = c.places ++ node_of_size n ∷ [] }

  same_size : length c.places ≡ length c.words
  same_size = g.places ∙ sym g.words

  stands_more : Stands vars (held_apart items) (held_conjuncts items) (held_count items) c → ¬ IsMadeInt info → Stands now (held_apart items) (held_conjuncts items) (held_count items) (with_node c info)
  stands_more s n = subst (λ z. Stands now (held_apart items) (held_conjuncts items) (held_count items) (with_size z)) same_size (record {
    words = solves_more c.words s.words_ranked word_difference AnyWords AnyWords [] (held_conjuncts items) c.unequal_words (λ w a. a) s.words;
    places = solves_more c.places s.places_ranked place_difference (ArePlaceNumbers vars) (ArePlaceNumbers now) (held_apart items) (held_conjuncts items) c.unequal_places (fewer_numbers vars info) s.places;
    placed = placed_more vars info c.owners (held_apart items) c.places s.places_ranked (places_size c items g) (owners_size c items g ∙ sym (places_size c items g)) s.places.flat s.placed n;
    marks = marks_more vars (held_apart items) (held_conjuncts items) c.marks s.marks info (marks_size c items g);
    bare = s.bare;
    words_ranked = ranked_more c.words s.words_ranked;
    places_ranked = ranked_more c.places s.places_ranked;
    few_words = s.few_words;
    word_ranks = rank_more c.words s.words_ranked (held_count items) (held_count items) (omega arith) s.word_ranks;
    place_ranks = rank_more c.places s.places_ranked (2 * held_count items) (2 * held_count items) (omega arith) s.place_ranks;
  })

  abbrev Answer : Bool → Content → Type 0
  Answer b e = IsAnswered b now (held_apart items) (held_conjuncts items) (held_count items) e

  answer_more : (r : Bool) → (r ≡ true → (is_refuted (last_step c.steps) ≡ true) ⊎ IsMadeInt info) → (r ≡ false → (is_refuted (last_step c.steps) ≡ false) × (¬ IsMadeInt info)) →
      Answer r (with_step (with_node c info) (step.Variable r))
  answer_more true first second = elim (first refl) [
    | inl e ↦ still_refuted vars info (held_conjuncts items) (refuted c items g e)
    | inr m ↦ made_refuted vars info (held_conjuncts items) m
  ]
  answer_more false first second =
      let n = second refl in
      stands_with now (held_apart items) (held_conjuncts items) (held_count items) (with_node c info) (c.steps ++ step.Variable false ∷ []) (stands_more (unrefuted c items g n.0) n.1)

  more_one : {X Y : Type 0} (xs : List X) (ys : List Y) (x : X) (y : Y) → length xs ≡ length ys + 1 → length (xs ++ x ∷ []) ≡ length (ys ++ y ∷ []) + 1
  more_one xs ys x y e = let a = length-append xs (x ∷ []) in let b = length-append ys (y ∷ []) in omega arith

  pub takes_variable : (r : Bool) → (r ≡ true → (is_refuted (last_step c.steps) ≡ true) ⊎ IsMadeInt info) → (r ≡ false → (is_refuted (last_step c.steps) ≡ false) × (¬ IsMadeInt info)) →
      HoldsItems (with_step (with_node c info) (step.Variable r)) (OfVar info ∷ items)
  takes_variable r first second = step_holds c items h g (OfVar info)
      (All-weaker (IsWellSorted vars) (IsWellSorted now) (sorted_more vars info) (held_conjuncts items) g.sorted)
      (let n = length-append vars (info ∷ []) in omega arith) g.count
      (with_node c info) (step.Variable r) refl (ap (λ (z : List VarInfo). z ++ info ∷ []) g.vars)
      (more_one c.words c.vars (node_of_size (length c.words)) info g.words)
      (more_one c.places c.vars (node_of_size (length c.words)) info g.places)
      (more_one c.marks c.vars mark.Free info g.marks)
      (more_one c.owners c.vars false info g.owners)
      (answer_more r first second) tt
      (same_content (before (step.Variable r) (with_node c info)) c (front_push c.vars info) (front_push c.words (node_of_size (length c.words))) (front_push c.places (node_of_size (length c.words)))
      (front_push c.marks mark.Free) (front_push c.owners false) refl refl refl)
