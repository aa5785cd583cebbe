-- Trees and disequalities after one conjunct more.
use Rattle.std.proofs.Common.{◌≡◌, inl, inr, ℕ, zero, suc, ◌+◌, ◌<◌, ◌≤◌, List, [], ◌∷◌, ◌++◌, length, length-append, get_or, map, refl, sym, ap, subst, ◌∙◌, arith}
use Rattle.std.specs.Prelude.{true, false, Option, Some, None, All}
use Rattle.std.proofs.Math.ListN.{get_or-append}
use Rattle.std.proofs.lemmas.Bool.{cases_lt}
use Rattle.std.proofs.lemmas.List.{get_or_push, get_or-map, length-map}
use Rattle.std.proofs.lemmas.List.Elements.{All-cons, All-head, All-tail, All-append, All-map}
use Rattle.std.proofs.lemmas.Option.{none-some, same_Some}
use Rattle.px_terms.specs.declared.conjuncts.Place.TheVariants as place
use Rattle.px_terms.specs.declared.conjuncts.Conj.{Conj}
use Rattle.px_terms.specs.declared.conjuncts.Conj.TheVariants.{OtherPlace}
use Rattle.px_terms.proofs.Evaluation.{All-left, All-right}
use Rattle.px_terms.proofs.Tests.{never_both}
use Rattle.px_plain.specs.declared.nodes.Difference.{Difference}
use Rattle.px_plain.specs.declared.trees.Tree.{Tree}
use Rattle.px_plain.specs.Forest.{IsAbove}
use Rattle.px_plain.specs.Differences.{difference_at, IfEqual, IfUnequal, AreInside}
use Rattle.px_plain.specs.Readings.{place_difference, same_or_other}
use Rattle.px_plain.specs.Trees.{Flat, KeepsFlat, AreOne}
use Rattle.px_plain.specs.Joins.{AllApart}
use Rattle.px_plain.specs.Held.{apart_conjuncts, place_of_variable}
use Rattle.px_plain.specs.Stands.{EqualBy, UnequalBy, ArePlacesApart, Solves}

abbrev none : Difference
none = record { from = 0; to = 0; plus = 0; equal = false }

-- ---- what one conjunct asks

module _ (read : Conj → Option Difference) (c : Conj) (w : ℕ → ℕ) where
  pub quiet_equal : read c ≡ None → EqualBy read w c
  quiet_equal e d g = absurd (none-some d (sym e ∙ g))

  pub quiet_unequal : read c ≡ None → UnequalBy read w c
  quiet_unequal e d g = absurd (none-some d (sym e ∙ g))

  module _ (d : Difference) (is : read c ≡ Some d) where
    pub equal_by : IfEqual w d → EqualBy read w c
    equal_by h e g = subst (IfEqual w) (same_Some d e (sym is ∙ g)) h

    pub unequal_by : IfUnequal w d → UnequalBy read w c
    unequal_by h e g = subst (IfUnequal w) (same_Some d e (sym is ∙ g)) h

    pub unequal_none : d.equal ≡ true → UnequalBy read w c
    unequal_none e = unequal_by (λ f. absurd (never_both d.equal e f))

    pub equal_none : d.equal ≡ false → EqualBy read w c
    equal_none e = equal_by (λ f. absurd (never_both d.equal f e))

-- ---- one disequality more

module _ (w : ℕ → ℕ) (us : List Difference) (d : Difference) where
  pub apart_push : AllApart w us → ¬ IsAbove w d.to d.from d.plus → AllApart w (us ++ d ∷ [])
  apart_push h k j l =
      let n = length-append us (d ∷ []) in
      elim (cases_lt j (length us)) [
        | inl b ↦ subst (λ (e : Difference). ¬ IsAbove w e.to e.from e.plus) (sym (get_or-append us (d ∷ []) none j b)) (h j b)
        | inr b ↦ let same : length us ≡ j = omega arith in subst (λ (e : Difference). ¬ IsAbove w e.to e.from e.plus) (sym (get_or_push us d none j same)) k
      ]

  pub apart_front : AllApart w (us ++ d ∷ []) → AllApart w us
  apart_front h j l =
      let n = length-append us (d ∷ []) in
      subst (λ (e : Difference). ¬ IsAbove w e.to e.from e.plus) (get_or-append us (d ∷ []) none j l) (h j (omega arith))

  pub apart_last : AllApart w (us ++ d ∷ []) → ¬ IsAbove w d.to d.from d.plus
  apart_last h =
      let n = length-append us (d ∷ []) in
      subst (λ (e : Difference). ¬ IsAbove w e.to e.from e.plus) (get_or_push us d none (length us) refl) (h (length us) (omega arith))

pub inside_push : (n : ℕ) (us : List Difference) (d : Difference) → AreInside n us → d.from < n → d.to < n → AreInside n (us ++ d ∷ [])
inside_push n us d i f t = record {
  from = λ j l.
      let k = length-append us (d ∷ []) in
      elim (cases_lt j (length us)) [
        | inl b ↦ subst (λ (e : Difference). e.from < n) (sym (get_or-append us (d ∷ []) none j b)) (i.from j b)
        | inr b ↦ let same : length us ≡ j = omega arith in subst (λ (e : Difference). e.from < n) (sym (get_or_push us d none j same)) f
      ];
  to = λ j l.
      let k = length-append us (d ∷ []) in
      elim (cases_lt j (length us)) [
        | inl b ↦ subst (λ (e : Difference). e.to < n) (sym (get_or-append us (d ∷ []) none j b)) (i.to j b)
        | inr b ↦ let same : length us ≡ j = omega arith in subst (λ (e : Difference). e.to < n) (sym (get_or_push us d none j same)) t
      ];
}

pub inside_more : (n m : ℕ) (us : List Difference) → n ≤ m → AreInside n us → AreInside m us
inside_more n m us l i = record { from = λ j b. let h = i.from j b in omega arith; to = λ j b. let h = i.to j b in omega arith }

-- ---- conjuncts that say nothing here

module _ (read : Conj → Option Difference) (asked : (ℕ → ℕ) → Type 0) (ap : List ℕ) (cs : List Conj) (t : List Tree) (us : List Difference) (s : Solves read asked ap cs t us) where
  abbrev pub solves_quiet : (c : Conj) → read c ≡ None → Solves read asked ap (c ∷ cs) t us
  solves_quiet c e = record {
    flat = s.flat;
    there = λ w a h. s.there w a (All-tail (EqualBy read w) c cs h);
    back = λ w k. All-cons (EqualBy read w) c cs (quiet_equal read c w e) (s.back w k);
    unequal_there = λ w h. s.unequal_there w (All-tail (UnequalBy read w) c cs h);
    apart_there = λ w h. s.apart_there w (All-tail (UnequalBy read w) c cs h);
    unequal_back = λ w a p. All-cons (UnequalBy read w) c cs (quiet_unequal read c w e) (s.unequal_back w a p);
    inside = s.inside;
    separate = s.separate;
  }

  -- ---- an equality

  module _ (c : Conj) (d : Difference) (is : read c ≡ Some d) (equal : d.equal ≡ true) where
    -- it holds in other trees, in which what held before holds
    abbrev pub solves_equal : (u : List Tree) (g : Flat u) → length u ≡ length t →
        ((w : ℕ → ℕ) → asked w → KeepsFlat w s.flat → IsAbove w d.to d.from d.plus → KeepsFlat w g) →
        ((w : ℕ → ℕ) → KeepsFlat w g → KeepsFlat w s.flat) → ((w : ℕ → ℕ) → KeepsFlat w g → IsAbove w d.to d.from d.plus) →
        ((j : ℕ) → j < length us → ¬ AreOne g (difference_at us j)) → Solves read asked ap (c ∷ cs) u us
    solves_equal u g size there back held apart = record {
      flat = g;
      there = λ w a h. there w a (s.there w a (All-tail (EqualBy read w) c cs h)) (All-head (EqualBy read w) c cs h d is equal);
      back = λ w k. All-cons (EqualBy read w) c cs (equal_by read c w d is (λ q. held w k)) (s.back w (back w k));
      unequal_there = λ w h. s.unequal_there w (All-tail (UnequalBy read w) c cs h);
      apart_there = λ w h. s.apart_there w (All-tail (UnequalBy read w) c cs h);
      unequal_back = λ w a p. All-cons (UnequalBy read w) c cs (unequal_none read c w d is equal) (s.unequal_back w a p);
      inside = subst (λ n. AreInside n us) (sym size) s.inside;
      separate = apart;
    }

  -- ---- a disequality

  module _ (c : Conj) (d : Difference) (is : read c ≡ Some d) (unequal : d.equal ≡ false) where
    pub separate_push : ¬ AreOne s.flat d → (j : ℕ) → j < length (us ++ d ∷ []) → ¬ AreOne s.flat (difference_at (us ++ d ∷ []) j)
    separate_push n j l =
        let k = length-append us (d ∷ []) in
        elim (cases_lt j (length us)) [
          | inl b ↦ subst (λ (e : Difference). ¬ AreOne s.flat e) (sym (get_or-append us (d ∷ []) none j b)) (s.separate j b)
          | inr b ↦ let same : length us ≡ j = omega arith in subst (λ (e : Difference). ¬ AreOne s.flat e) (sym (get_or_push us d none j same)) n
        ]

    abbrev pub solves_unequal : d.from < length t → d.to < length t → ¬ AreOne s.flat d → Solves read asked ap (c ∷ cs) t (us ++ d ∷ [])
    solves_unequal from to apart = record {
      flat = s.flat;
      there = λ w a h. s.there w a (All-tail (EqualBy read w) c cs h);
      back = λ w k. All-cons (EqualBy read w) c cs (equal_none read c w d is unequal) (s.back w k);
      unequal_there = λ w h. apart_push w us d (s.unequal_there w (All-tail (UnequalBy read w) c cs h)) (All-head (UnequalBy read w) c cs h d is unequal);
      apart_there = λ w h. s.apart_there w (All-tail (UnequalBy read w) c cs h);
      unequal_back = λ w a p. All-cons (UnequalBy read w) c cs (unequal_by read c w d is (λ q. apart_last w us d a)) (s.unequal_back w (apart_front w us d a) p);
      inside = inside_push (length t) us d s.inside from to;
      separate = separate_push apart;
    }

-- many conjuncts that say nothing
pub solves_quiet_all : (read : Conj → Option Difference) (asked : (ℕ → ℕ) → Type 0) (ap : List ℕ) (new cs : List Conj) (t : List Tree) (us : List Difference) →
    All (λ c. read c ≡ None) new → Solves read asked ap cs t us → Solves read asked ap (new ++ cs) t us
solves_quiet_all read asked ap [] cs t us e s = s
solves_quiet_all read asked ap (c ∷ new) cs t us e s =
    solves_quiet read asked ap (new ++ cs) t us (solves_quiet_all read asked ap new cs t us (All-tail (λ c. read c ≡ None) c new e) s) c (All-head (λ c. read c ≡ None) c new e)

-- ---- a place apart

abbrev other : ℕ → ℕ → Conj
other x y = OtherPlace (place_of_variable x) (place_of_variable y)

module _ (w : ℕ → ℕ) (x : ℕ) (ys : List ℕ) where
  abbrev Unequal : Conj → Type 0
  Unequal = UnequalBy place_difference w

  -- the values of what is apart, of the conjuncts and back
  pub apart_of : All Unequal (apart_conjuncts x ys) → ArePlacesApart w ys → ArePlacesApart w (x ∷ ys)
  apart_of h a = record { null = first; pairs = both }
    where
      first : (i : ℕ) → i < length (x ∷ ys) → ¬ IsAbove w 0 (get_or (x ∷ ys) i 0 + 1) 0
      first zero l = All-head Unequal (OtherPlace (place_of_variable x) place.Null) (map (other x) ys) h (same_or_other (place_of_variable x) place.Null false) refl refl
      first (suc i) l = a.null i (omega arith)

      at : (j : ℕ) → j < length ys → ¬ IsAbove w (get_or ys j 0 + 1) (x + 1) 0
      at j l =
          let k : j < length (map (other x) ys) = let n = length-map ys (other x) in omega arith in
          let g = All-tail Unequal (OtherPlace (place_of_variable x) place.Null) (map (other x) ys) h j (other x 0) k in
          let e = get_or-map (other x) ys j 0 (other x 0) l in
          subst Unequal e g (same_or_other (place_of_variable x) (place_of_variable (get_or ys j 0)) false) refl refl

      both : (i j : ℕ) → i < j → j < length (x ∷ ys) → ¬ IsAbove w (get_or (x ∷ ys) j 0 + 1) (get_or (x ∷ ys) i 0 + 1) 0
      both i zero b l = absurd (omega arith)
      both zero (suc j) b l = at j (omega arith)
      both (suc i) (suc j) b l = a.pairs i j (omega arith) (omega arith)

  pub apart_rest : ArePlacesApart w (x ∷ ys) → ArePlacesApart w ys
  apart_rest a = record { null = λ i l. a.null (suc i) (omega arith); pairs = λ i j b l. a.pairs (suc i) (suc j) (omega arith) (omega arith) }

  pub of_apart : ArePlacesApart w (x ∷ ys) → All Unequal (apart_conjuncts x ys)
  of_apart a = All-cons Unequal (OtherPlace (place_of_variable x) place.Null) (map (other x) ys)
      (unequal_by place_difference (OtherPlace (place_of_variable x) place.Null) w (same_or_other (place_of_variable x) place.Null false) refl (λ q. a.null 0 (omega arith)))
      (All-map Unequal (other x) ys (λ j d l.
      let e = Rattle.std.proofs.lemmas.List.get_or_default ys j 0 d l in
      subst (λ y. Unequal (other x y)) e
      (unequal_by place_difference (other x (get_or ys j 0)) w (same_or_other (place_of_variable x) (place_of_variable (get_or ys j 0)) false) refl (λ q. a.pairs 0 (suc j) (omega arith) (omega arith)))))

  pub apart_equal : All (EqualBy place_difference w) (apart_conjuncts x ys)
  apart_equal = All-cons (EqualBy place_difference w) (OtherPlace (place_of_variable x) place.Null) (map (other x) ys)
      (equal_none place_difference (OtherPlace (place_of_variable x) place.Null) w (same_or_other (place_of_variable x) place.Null false) refl refl)
      (All-map (EqualBy place_difference w) (other x) ys (λ j d l.
      equal_none place_difference (other x (get_or ys j d)) w (same_or_other (place_of_variable x) (place_of_variable (get_or ys j d)) false) refl refl))

abbrev pub solves_apart : (asked : (ℕ → ℕ) → Type 0) (ap : List ℕ) (cs : List Conj) (t : List Tree) (us : List Difference) (x : ℕ) →
    Solves place_difference asked ap cs t us → Solves place_difference asked (x ∷ ap) (apart_conjuncts x ap ++ cs) t us
solves_apart asked ap cs t us x s = record {
  flat = s.flat;
  there = λ w a h. s.there w a (All-right (EqualBy place_difference w) (apart_conjuncts x ap) cs h);
  back = λ w k. All-append (EqualBy place_difference w) (apart_conjuncts x ap) cs (apart_equal w x ap) (s.back w k);
  unequal_there = λ w h. s.unequal_there w (All-right (UnequalBy place_difference w) (apart_conjuncts x ap) cs h);
  apart_there = λ w h. apart_of w x ap (All-left (UnequalBy place_difference w) (apart_conjuncts x ap) cs h) (s.apart_there w (All-right (UnequalBy place_difference w) (apart_conjuncts x ap) cs h));
  unequal_back = λ w a p. All-append (UnequalBy place_difference w) (apart_conjuncts x ap) cs (of_apart w x ap p) (s.unequal_back w a (apart_rest w x ap p));
  inside = s.inside;
  separate = s.separate;
}
