-- What a stack holds after a claim was taken.
use Rattle.std.proofs.Common.{◌≡◌, ◌≢◌, inl, inr, ℕ, ◌+◌, ◌<◌, ◌≤◌, List, ◌∷◌, ◌++◌, length, refl, sym, ap, subst, ◌∙◌, arith}
use Rattle.std.specs.Prelude.{Bool, true, false, Some, None, All}
use Rattle.std.proofs.lemmas.Bool.{cases_Bool}
use Rattle.std.proofs.lemmas.List.Elements.{All-cons, All-tail, All-append}
use Rattle.std.proofs.lemmas.Option.{none-some, same_Some}
use Rattle.px_terms.specs.Conjuncts.{IsWellSorted, IsTrueUnder, IsPlain, IsPointerVariable}
use Rattle.px_terms.specs.declared.variables.VarInfo.{VarInfo}
use Rattle.px_terms.specs.declared.conjuncts.Conj.{Conj}
use Rattle.px_terms.proofs.Evaluation.{All-right}
use Rattle.px_plain.specs.declared.nodes.Difference.{Difference}
use Rattle.px_plain.specs.declared.trees.Tree.{Tree}
use Rattle.px_plain.specs.declared.claims.Claim.{Claim}
use Rattle.px_plain.specs.declared.claims.Claim.TheVariants as claim
use Rattle.px_plain.specs.declared.claims.Ends.{Ends}
use Rattle.px_plain.specs.declared.claims.Change.{Change}
use Rattle.px_plain.specs.declared.claims.Change.TheVariants as change
use Rattle.px_plain.specs.declared.claims.Step.{Step}
use Rattle.px_plain.specs.declared.claims.Step.TheVariants as step
use Rattle.px_plain.specs.Models.{IsPlainlyRefuted}
use Rattle.px_plain.specs.Readings.{word_difference, place_difference}
use Rattle.px_plain.specs.Claims.{words_claimed, places_claimed, unwritten_claimed, written_claimed, IsConjunctClaim}
use Rattle.px_plain.specs.Held.{HeldItem, OfConj, OfApart, held_vars, held_apart, held_conjuncts, held_count, apart_conjuncts}
use Rattle.px_plain.specs.Trees.{parent_at}
use Rattle.px_plain.specs.Steps.{Content, last_step, is_refuted}
use Rattle.px_plain.specs.Changes.{from_of, to_of, mark_of, CannotMark, MayMark, WordsChanged, PlacesChanged, Changed, RefutedBy, already, unmarkable, unchangeable, ClaimAdded, Takes}
use Rattle.px_plain.specs.Stacks.{CanTake}
use Rattle.px_plain.specs.Stands.{Stands, IsAnswered, IsOf, HoldsItems}
use Rattle.px_plain.proofs.ChangedStacks.{AfterChange, nothing_changed, words_after, places_after, apart_after}
use Rattle.px_plain.proofs.Clashes.{no_equal_word, no_unequal_word, no_equal_place, no_unequal_place, no_apart}
use Rattle.px_plain.proofs.Labelled.{int_node_inside, pointer_node_inside}
use Rattle.px_plain.proofs.Lists.{word_ends, place_ends, unwritten_variable, written_inside, pointer_inside}
use Rattle.px_plain.proofs.MarksHeld.{IsClaimOf, IsOfConjunct, none_marked, marks_quiet, marks_claimed, marks_apart, unmarkable_apart}
use Rattle.px_plain.proofs.MarksHeld as marking
use Rattle.px_plain.proofs.Solutions.{Solution, refuted_without}
use Rattle.px_plain.proofs.StackSteps.{with_step, refuted_step, quiet_step, claimed_step}

-- ---- what is known of a stack

module _ (c : Content) (items : List HeldItem) (g : IsOf c items) where
  abbrev pub answer_for : Bool → Type 0
  answer_for b = IsAnswered b (held_vars items) (held_apart items) (held_conjuncts items) (held_count items) c

  pub unrefuted : is_refuted (last_step c.steps) ≡ false → Stands (held_vars items) (held_apart items) (held_conjuncts items) (held_count items) c
  unrefuted e = subst answer_for e g.answer

  pub refuted : is_refuted (last_step c.steps) ≡ true → IsPlainlyRefuted (held_vars items) (held_conjuncts items)
  refuted e = subst answer_for e g.answer

  pub words_size : length c.words ≡ length (held_vars items) + 1
  words_size = g.words ∙ ap (λ (z : List VarInfo). length z + 1) g.vars

  pub places_size : length c.places ≡ length (held_vars items) + 1
  places_size = g.places ∙ ap (λ (z : List VarInfo). length z + 1) g.vars

  pub marks_size : length c.marks ≡ length (held_vars items) + 1
  marks_size = g.marks ∙ ap (λ (z : List VarInfo). length z + 1) g.vars

  pub owners_size : length c.owners ≡ length (held_vars items) + 1
  owners_size = g.owners ∙ ap (λ (z : List VarInfo). length z + 1) g.vars

  pub can_take : (k : Claim) → from_of k < length (held_vars items) + 1 → to_of k < length (held_vars items) + 1 → ((u : ℕ) → k ≡ claim.Unwritten u → 0 < u) →
      is_refuted (last_step c.steps) ≡ false → CanTake c k
  can_take k from to some e =
      let s = unrefuted e in
      let n = words_size in
      let m = places_size in
      let r = g.count in
      let f = s.places.flat in
      record {
        from = omega arith;
        to = omega arith;
        words = g.words;
        places = g.places;
        marks = g.marks;
        owners = g.owners;
        words_ranked = s.words_ranked;
        places_ranked = s.places_ranked;
        word_ranks = λ v l. let q = s.word_ranks v l in omega arith;
        place_ranks = λ v l. let q = s.place_ranks v l in omega arith;
        null = ap (parent_at c.places) (sym s.placed.null) ∙ f.is_root 0 (omega arith) ∙ s.placed.null;
        unequal_words = s.words.inside;
        unequal_places = s.places.inside;
        unwritten = some;
      }

-- ---- the claim of a conjunct

pub of_conjunct : (k : Claim) → IsConjunctClaim k → k ≢ claim.Nothing → IsOfConjunct k
of_conjunct claim.Nothing h n = n refl
of_conjunct (claim.Words d) h n = tt
of_conjunct (claim.Places d) h n = tt
of_conjunct (claim.Written u) h n = tt
of_conjunct (claim.Unwritten u) h n = tt
of_conjunct (claim.Apart u) h n = h

pub claim_inside : (vars : List VarInfo) (conj : Conj) → IsWellSorted vars conj → (k : Claim) → IsConjunctClaim k → IsClaimOf conj k → (from_of k < length vars + 1) × (to_of k < length vars + 1)
claim_inside vars conj w claim.Nothing h q = (omega arith, omega arith)
claim_inside vars conj w (claim.Words d) h q = let e = word_ends vars conj w d (sym q.words) in (int_node_inside vars d.from e.0, int_node_inside vars d.to e.1)
claim_inside vars conj w (claim.Places d) h q = let e = place_ends vars conj w d (sym q.places) in (pointer_node_inside vars d.from e.0, pointer_node_inside vars d.to e.1)
claim_inside vars conj w (claim.Written u) h q = let e = written_inside vars conj w u (sym q.written) in (e, e)
claim_inside vars conj w (claim.Unwritten u) h q = let e = unwritten_variable vars conj w u (sym q.unwritten) in let a = e.1 in let b = e.2 in let l : u < length vars + 1 = omega arith in (l, l)
claim_inside vars conj w (claim.Apart u) h q = absurd h

module _ (c : Content) (items : List HeldItem) (h : HoldsItems c items) (g : IsOf c items) (conj : Conj) (w : IsWellSorted (held_vars items) conj) (room : held_count items < 65536)
    (k : Claim) (kind : IsConjunctClaim k) (q : IsClaimOf conj k) where
  abbrev vars : List VarInfo
  vars = held_vars items

  abbrev cs : List Conj
  cs = held_conjuncts items

  sorted : All (IsWellSorted vars) (conj ∷ cs)
  sorted = All-cons (IsWellSorted vars) conj cs w g.sorted

  full : held_count items + 1 ≤ 65536
  full = omega arith

  refutes : (e : Content) → e ≡ c → ¬ Solution vars (conj ∷ cs) → HoldsItems (with_step e step.Refuted) (OfConj conj ∷ items)
  refutes e z n = refuted_step c items h g (OfConj conj) sorted g.few full refl e z (refuted_without vars (conj ∷ cs) sorted g.few n)

  module _ (s : Stands vars (held_apart items) cs (held_count items) c) where
    abbrev After : Content → Change → Type 0
    After e o = AfterChange vars (held_apart items) (conj ∷ cs) (held_count items + 1) c e o

    -- ---- it can't hold

    no_words : (d : Difference) → word_difference conj ≡ Some d → d.from < length c.words → d.to < length c.words → (e : Content) →
        e ≡ record c { words = e.words; unequal_words = e.unequal_words } → WordsChanged c.words c.unequal_words d e.words e.unequal_words None → (e ≡ c) × (¬ Solution vars (conj ∷ cs))
    no_words d is from to e z n = elim (cases_Bool d.equal) [
      | inl b ↦
          let j = n.equal b in (
            z ∙ ap (λ (t : List Tree). record c { words = t; unequal_words = e.unequal_words }) j.0.0 ∙ ap (λ (t : List Difference). record c { unequal_words = t }) j.1,
            λ y. no_equal_word vars (held_apart items) cs (held_count items) c s (places_size c items g) conj d is y b j.0.1,
          )
      | inr b ↦
          let j = n.unequal b in (
            z ∙ ap (λ (t : List Tree). record c { words = t; unequal_words = e.unequal_words }) j.0 ∙ ap (λ (t : List Difference). record c { unequal_words = t }) j.1,
            λ y. no_unequal_word vars (held_apart items) cs (held_count items) c s (places_size c items g) conj d is y b from to (j.2 s.words.flat),
          )
    ]

    no_places : (d : Difference) → place_difference conj ≡ Some d → d.plus ≡ 0 → d.from < length c.places → d.to < length c.places → (e : Content) →
        e ≡ record c { places = e.places; unequal_places = e.unequal_places } → PlacesChanged vars c.owners c.places c.unequal_places d e.places e.unequal_places None → (e ≡ c) × (¬ Solution vars (conj ∷ cs))
    no_places d is bare from to e z n = elim (cases_Bool d.equal) [
      | inl b ↦
          let j = n.equal b in (
            z ∙ ap (λ (t : List Tree). record c { places = t; unequal_places = e.unequal_places }) j.0.0 ∙ ap (λ (t : List Difference). record c { unequal_places = t }) j.1,
            λ y. no_equal_place vars (held_apart items) cs (held_count items) c s (places_size c items g) conj d is bare from to y b (j.0.1 s.places.flat),
          )
      | inr b ↦
          let j = n.unequal b in (
            z ∙ ap (λ (t : List Tree). record c { places = t; unequal_places = e.unequal_places }) j.0 ∙ ap (λ (t : List Difference). record c { unequal_places = t }) j.1,
            λ y. no_unequal_place vars (held_apart items) cs (held_count items) c s (places_size c items g) conj d is bare from to y b (j.2 s.places.flat),
          )
    ]

    not_changed : (k : Claim) → IsConjunctClaim k → IsClaimOf conj k → (e : Content) → Changed c k e None → (e ≡ c) × (¬ Solution vars (conj ∷ cs))
    not_changed claim.Nothing a p e n = absurd (none-some change.Nothing n.1)
    not_changed (claim.Words d) a p e n =
        let b = claim_inside vars conj w (claim.Words d) a p in
        let z = words_size c items g in
        no_words d (sym p.words) (omega arith) (omega arith) e n.0 n.1
    not_changed (claim.Places d) a p e n =
        let b = claim_inside vars conj w (claim.Places d) a p in
        let z = places_size c items g in
        let m = (place_ends vars conj w d (sym p.places)).2 in
        no_places d (sym p.places) m (omega arith) (omega arith) e n.0 (subst (λ y. PlacesChanged y c.owners c.places c.unequal_places d e.places e.unequal_places None) g.vars n.1)
    not_changed (claim.Written u) a p e n = absurd (none-some change.Nothing n.1)
    not_changed (claim.Unwritten u) a p e n = absurd (none-some change.Nothing n.1)
    not_changed (claim.Apart u) a p e n = absurd a

    -- ---- it holds

    abbrev nothing_now : word_difference conj ≡ None → place_difference conj ≡ None → After c change.Nothing
    nothing_now = nothing_changed vars (held_apart items) cs (held_count items) c s (words_size c items g) (places_size c items g) (owners_size c items g) g.few room conj

    no_change : (e : Content) (o : Change) → word_difference conj ≡ None → place_difference conj ≡ None → (e ≡ c) × (Some o ≡ Some change.Nothing) → After e o
    no_change e o p r n = subst (λ z. After z o) (sym n.0) (subst (After c) (sym (same_Some o change.Nothing n.1)) (nothing_now p r))

    changed : (k : Claim) → IsConjunctClaim k → k ≢ claim.Nothing → IsClaimOf conj k → (e : Content) (o : Change) → Changed c k e (Some o) → After e o
    changed claim.Nothing a some p e o n = absurd (some refl)
    changed (claim.Words d) a some p e o n =
        let b = claim_inside vars conj w (claim.Words d) a p in
        let z = words_size c items g in
        subst (λ y. After y o) (sym n.0)
        (words_after vars (held_apart items) cs (held_count items) c s (words_size c items g) (places_size c items g) (owners_size c items g) g.few room conj d (sym p.words) (sym p.places) (omega arith) (omega arith)
        e.words e.unequal_words o n.1)
    changed (claim.Places d) a some p e o n =
        let b = claim_inside vars conj w (claim.Places d) a p in
        let z = places_size c items g in
        let m = (place_ends vars conj w d (sym p.places)).2 in
        subst (λ y. After y o) (sym n.0)
        (places_after vars (held_apart items) cs (held_count items) c s (words_size c items g) (places_size c items g) (owners_size c items g) g.few room conj d (sym p.places) (sym p.words) m (omega arith) (omega arith)
        e.places e.unequal_places o (subst (λ y. PlacesChanged y c.owners c.places c.unequal_places d e.places e.unequal_places (Some o)) g.vars n.1))
    changed (claim.Written u) a some p e o n = no_change e o (sym p.words) (sym p.places) n
    changed (claim.Unwritten u) a some p e o n = no_change e o (sym p.words) (sym p.places) n
    changed (claim.Apart u) a some p e o n = absurd a

    quiet : k ≡ claim.Nothing → Stands vars (held_apart items) (conj ∷ cs) (held_count items + 1) c
    quiet z =
        let p : word_difference conj ≡ None = sym q.words ∙ ap words_claimed z in
        let r : place_difference conj ≡ None = sym q.places ∙ ap places_claimed z in
        let a = nothing_now p r in
        record {
          words = a.words;
          places = a.places;
          placed = a.placed;
          marks = marks_quiet vars (held_apart items) cs c.marks s.marks conj (λ void. none_marked void conj p r (sym q.unwritten ∙ ap unwritten_claimed z) (sym q.written ∙ ap written_claimed z));
          bare = a.bare;
          words_ranked = a.words_ranked;
          places_ranked = a.places_ranked;
          few_words = a.few_words;
          word_ranks = a.word_ranks;
          place_ranks = a.place_ranks;
        }

  refuted_by : (e : Content) → RefutedBy c k e → HoldsItems (with_step e step.Refuted) (OfConj conj ∷ items)
  refuted_by e (already z m) = refuted_step c items h g (OfConj conj) sorted g.few full refl e m (λ v f t. refuted c items g z v f (All-tail (λ c. IsPlain c → IsTrueUnder v c) conj cs t))
  refuted_by e (unmarkable z some m n) =
      let s = unrefuted c items g z in
      refutes e n (λ y. marking.unmarkable vars (held_apart items) cs c.marks s.marks conj k (of_conjunct k kind some) q (subst (λ x. CannotMark x c.marks k) g.vars m) y.void y.cells y.marks)
  refuted_by e (unchangeable z n) = let r = not_changed (unrefuted c items g z) k kind q e n in refutes e r.0 r.1

  claimed : (e : Content) (ends : Ends) (o : Change) → ClaimAdded c k e ends o → HoldsItems (with_step e (step.Claimed ends o)) (OfConj conj ∷ items)
  claimed e ends o a =
      let s = unrefuted c items g a.unrefuted in
      let b = claim_inside vars conj w k kind q in
      let z = words_size c items g in
      let m = marks_size c items g in
      let f = ap (λ (x : Ends). x.from) a.ends_are in
      let t = ap (λ (x : Ends). x.to) a.ends_are in
      let e' = a.ends_are in
      claimed_step c items h g (OfConj conj) sorted g.few full refl a.between e ends o (mark_of k) (changed s k kind a.some q a.between o a.changed)
      (subst (λ x. Rattle.px_plain.specs.Stands.AreMarksOf vars (held_apart items) (conj ∷ cs) (Rattle.px_plain.specs.Steps.marked c.marks x (mark_of k))) (sym e')
      (marks_claimed vars (held_apart items) cs c.marks s.marks conj k (of_conjunct k kind a.some) q (omega arith) (omega arith) (subst (λ x. MayMark x c.marks k) g.vars a.may)))
      (ap (λ (x : Ends). x.from_was) e' ∙ ap (Rattle.px_plain.specs.Steps.mark_at c.marks) (sym f))
      (ap (λ (x : Ends). x.to_was) e' ∙ ap (Rattle.px_plain.specs.Steps.mark_at c.marks) (sym t))
      (omega arith) (omega arith) a.after

  pub takes_conjunct : (e : Content) (s : Step) → Takes c k e s → HoldsItems (with_step e s) (OfConj conj ∷ items)
  takes_conjunct e step.Refuted t = refuted_by e t
  takes_conjunct e step.Quiet t = quiet_step c items h g (OfConj conj) sorted g.few full refl e t.2 (quiet (unrefuted c items g t.0) t.1)
  takes_conjunct e (step.Variable r) t = absurd t
  takes_conjunct e (step.Claimed ends o) t = claimed e ends o t

-- ---- a place apart

module _ (c : Content) (items : List HeldItem) (h : HoldsItems c items) (g : IsOf c items) (x : ℕ) (w : IsPointerVariable (held_vars items) x) (ws : All (IsWellSorted (held_vars items)) (apart_conjuncts x (held_apart items)))
    (room : held_count items < 65536) where
  abbrev k : Claim
  k = claim.Apart (x + 1)

  abbrev here : List Conj
  here = apart_conjuncts x (held_apart items) ++ held_conjuncts items

  apart_sorted : All (IsWellSorted (held_vars items)) here
  apart_sorted = All-append (IsWellSorted (held_vars items)) (apart_conjuncts x (held_apart items)) (held_conjuncts items) ws g.sorted

  apart_full : held_count items + 1 ≤ 65536
  apart_full = omega arith

  node_inside : x + 1 < length (held_vars items) + 1
  node_inside = let l = pointer_inside (held_vars items) x w in omega arith

  apart_refutes : (e : Content) → e ≡ c → ¬ Solution (held_vars items) here → HoldsItems (with_step e step.Refuted) (OfApart x ∷ items)
  apart_refutes e z n = refuted_step c items h g (OfApart x) apart_sorted g.few apart_full refl e z (refuted_without (held_vars items) here apart_sorted g.few n)

  apart_refuted : (e : Content) → RefutedBy c k e → HoldsItems (with_step e step.Refuted) (OfApart x ∷ items)
  apart_refuted e (already z m) = refuted_step c items h g (OfApart x) apart_sorted g.few apart_full refl e m
      (λ v f t. refuted c items g z v f (All-right (λ c. IsPlain c → IsTrueUnder v c) (apart_conjuncts x (held_apart items)) (held_conjuncts items) t))
  apart_refuted e (unmarkable z some m n) =
      let s = unrefuted c items g z in
      apart_refutes e n (λ y. unmarkable_apart (held_vars items) (held_apart items) (held_conjuncts items) c.marks s.marks x m y.void y.marks)
  apart_refuted e (unchangeable z n) =
      let s = unrefuted c items g z in
      let l = node_inside in
      let m = places_size c items g in
      apart_refutes e (n.0 ∙ ap (λ (t : List Bool). record c { owners = t }) n.1.0)
      (λ y. no_apart (held_vars items) (held_apart items) (held_conjuncts items) (held_count items) c s (places_size c items g) x (omega arith) y (n.1.1 s.places.flat))

  apart_claimed : (e : Content) (ends : Ends) (o : Change) → ClaimAdded c k e ends o → HoldsItems (with_step e (step.Claimed ends o)) (OfApart x ∷ items)
  apart_claimed e ends o a =
      let s = unrefuted c items g a.unrefuted in
      let l = node_inside in
      let z = words_size c items g in
      let m = marks_size c items g in
      let p = places_size c items g in
      let f = ap (λ (x : Ends). x.from) a.ends_are in
      let t = ap (λ (x : Ends). x.to) a.ends_are in
      let e' = a.ends_are in
      claimed_step c items h g (OfApart x) apart_sorted g.few apart_full refl a.between e ends o (mark_of k)
      (subst (λ y. AfterChange (held_vars items) (x ∷ held_apart items) here (held_count items + 1) c y o) (sym a.changed.0)
      (apart_after (held_vars items) (held_apart items) (held_conjuncts items) (held_count items) c s (words_size c items g) (places_size c items g) (owners_size c items g) g.few room x (omega arith) a.between.owners o a.changed.1))
      (subst (λ y. Rattle.px_plain.specs.Stands.AreMarksOf (held_vars items) (x ∷ held_apart items) here (Rattle.px_plain.specs.Steps.marked c.marks y (mark_of k))) (sym e')
      (marks_apart (held_vars items) (held_apart items) (held_conjuncts items) c.marks s.marks x (omega arith) (omega arith) a.may))
      (ap (λ (x : Ends). x.from_was) e' ∙ ap (Rattle.px_plain.specs.Steps.mark_at c.marks) (sym f))
      (ap (λ (x : Ends). x.to_was) e' ∙ ap (Rattle.px_plain.specs.Steps.mark_at c.marks) (sym t))
      (omega arith) (omega arith) a.after

  not_nothing : (u : ℕ) → claim.Apart u ≡ claim.Nothing → ⊥
  not_nothing u e = cc

  pub takes_apart : (e : Content) (s : Step) → Takes c k e s → HoldsItems (with_step e s) (OfApart x ∷ items)
  takes_apart e step.Refuted t = apart_refuted e t
  takes_apart e step.Quiet t = absurd (not_nothing (x + 1) t.1)
  takes_apart e (step.Variable r) t = absurd t
  takes_apart e (step.Claimed ends o) t = apart_claimed e ends o t
