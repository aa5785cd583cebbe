-- Marks after one step more.
use Rattle.std.proofs.Common.{◌≡◌, ◌≢◌, ◌⊎◌, inl, inr, ℕ, zero, suc, ◌+◌, ◌<◌, List, [], ◌∷◌, ◌++◌, length, length-append, get_or, map, refl, sym, ap, subst, ◌∙◌, arith, get_or-set_other, get_or-set_same}
use Rattle.std.specs.Prelude.{Bool, true, false, Some, None, All, slice_get}
use Rattle.std.proofs.Math.ListN.{set, length-set, get_or-append}
use Rattle.std.proofs.lemmas.Bool.{cases_eq, cases_lt}
use Rattle.std.proofs.lemmas.List.{get_or_push, get_or_past, get_or_default}
use Rattle.std.proofs.lemmas.List.Elements.{All-nil, All-cons, All-head, All-append, All-map}
use Rattle.std.proofs.lemmas.Option.{none-some, same_Some}
use Rattle.px_terms.specs.declared.variables.VarInfo.{VarInfo}
use Rattle.px_terms.specs.declared.variables.Sort.TheVariants.{Cell}
use Rattle.px_terms.specs.declared.conjuncts.Place.TheVariants as place
use Rattle.px_terms.specs.declared.conjuncts.Conj.{Conj}
use Rattle.px_terms.specs.declared.conjuncts.Conj.TheVariants.{OtherPlace}
use Rattle.px_terms.proofs.Evaluation.{All-left, All-right}
use Rattle.px_terms.proofs.Tests.{never_both}
use Rattle.px_plain.specs.declared.nodes.Difference.{Difference}
use Rattle.px_plain.specs.declared.claims.Claim.{Claim}
use Rattle.px_plain.specs.declared.claims.Claim.TheVariants as claim
use Rattle.px_plain.specs.declared.claims.Mark.{Mark}
use Rattle.px_plain.specs.declared.claims.Mark.TheVariants as mark
use Rattle.px_plain.specs.Readings.{word_difference, place_difference, unwritten_node, written_node, same_or_other}
use Rattle.px_plain.specs.Claims.{words_claimed, places_claimed, unwritten_claimed, written_claimed}
use Rattle.px_plain.specs.Held.{apart_conjuncts, place_of_variable}
use Rattle.px_plain.specs.Steps.{mark_at, marked}
use Rattle.px_plain.specs.Changes.{from_of, to_of, mark_of, ends_of, MayMark, CannotMark}
use Rattle.px_plain.specs.Stands.{IsMarkedBy, Agrees, AreMarksOf}
use Rattle.px_plain.proofs.PlacesHeld.{old_var}

-- the claim is what the conjunct says
pub record IsClaimOf (c : Conj) (k : Claim) : Type 0 where
  pub words : words_claimed k ≡ word_difference c
  pub places : places_claimed k ≡ place_difference c
  pub unwritten : unwritten_claimed k ≡ unwritten_node c
  pub written : written_claimed k ≡ written_node c

-- ---- one conjunct

pub none_marked : (void : ℕ → Bool) (c : Conj) → word_difference c ≡ None → place_difference c ≡ None → unwritten_node c ≡ None → written_node c ≡ None → IsMarkedBy void c
none_marked void c p q r s = record {
  word = λ d e. absurd (none-some d (sym p ∙ e));
  place = λ d e. absurd (none-some d (sym q ∙ e));
  unwritten = λ u e. absurd (none-some u (sym r ∙ e));
  written = λ u e. absurd (none-some u (sym s ∙ e));
}

-- what the ends of a claim are
abbrev pub EndsAre : (ℕ → Bool) → Claim → Type 0
EndsAre void (claim.Unwritten u) = void u ≡ true
EndsAre void k = (void (from_of k) ≡ false) × (void (to_of k) ≡ false)

abbrev pub IsOfConjunct : Claim → Type 0
IsOfConjunct claim.Nothing = ⊥
IsOfConjunct (claim.Apart u) = ⊥
IsOfConjunct _ = Unit {0}

pub ends_of_conjunct : (void : ℕ → Bool) (c : Conj) (k : Claim) → IsOfConjunct k → IsClaimOf c k → IsMarkedBy void c → EndsAre void k
ends_of_conjunct void c claim.Nothing o p h = absurd o
ends_of_conjunct void c (claim.Words d) o p h = h.word d (sym p.words)
ends_of_conjunct void c (claim.Places d) o p h = h.place d (sym p.places)
ends_of_conjunct void c (claim.Written u) o p h = let e = h.written u (sym p.written) in (e, e)
ends_of_conjunct void c (claim.Unwritten u) o p h = h.unwritten u (sym p.unwritten)
ends_of_conjunct void c (claim.Apart u) o p h = absurd o

pub conjunct_of_ends : (void : ℕ → Bool) (c : Conj) (k : Claim) → IsOfConjunct k → IsClaimOf c k → EndsAre void k → IsMarkedBy void c
conjunct_of_ends void c claim.Nothing o p h = absurd o
conjunct_of_ends void c (claim.Words d) o p h = record {
  word = λ e g. subst (λ (z : Difference). (void z.from ≡ false) × (void z.to ≡ false)) (same_Some d e (p.words ∙ g)) h;
  place = λ e g. absurd (none-some e (p.places ∙ g));
  unwritten = λ u g. absurd (none-some u (p.unwritten ∙ g));
  written = λ u g. absurd (none-some u (p.written ∙ g));
}
conjunct_of_ends void c (claim.Places d) o p h = record {
  word = λ e g. absurd (none-some e (p.words ∙ g));
  place = λ e g. subst (λ (z : Difference). (void z.from ≡ false) × (void z.to ≡ false)) (same_Some d e (p.places ∙ g)) h;
  unwritten = λ u g. absurd (none-some u (p.unwritten ∙ g));
  written = λ u g. absurd (none-some u (p.written ∙ g));
}
conjunct_of_ends void c (claim.Written u) o p h = record {
  word = λ e g. absurd (none-some e (p.words ∙ g));
  place = λ e g. absurd (none-some e (p.places ∙ g));
  unwritten = λ v g. absurd (none-some v (p.unwritten ∙ g));
  written = λ v g. subst (λ z. void z ≡ false) (same_Some u v (p.written ∙ g)) h.0;
}
conjunct_of_ends void c (claim.Unwritten u) o p h = record {
  word = λ e g. absurd (none-some e (p.words ∙ g));
  place = λ e g. absurd (none-some e (p.places ∙ g));
  unwritten = λ v g. subst (λ z. void z ≡ true) (same_Some u v (p.unwritten ∙ g)) h;
  written = λ v g. absurd (none-some v (p.written ∙ g));
}
conjunct_of_ends void c (claim.Apart u) o p h = absurd o

-- ---- two nodes with one mark

module _ (marks : List Mark) (from to : ℕ) (i : from < length marks) (j : to < length marks) (m : Mark) where
  abbrev after : List Mark
  after = set (set marks from m) to m

  pub at_to : mark_at after to ≡ m
  at_to = let n = length-set marks from m in get_or-set_same (set marks from m) to m mark.Free (omega arith)

  pub at_from : mark_at after from ≡ m
  at_from = elim (cases_eq from to) [
    | inl e ↦ ap (mark_at after) e ∙ at_to
    | inr n ↦ get_or-set_other (set marks from m) to from m mark.Free n ∙ get_or-set_same marks from m mark.Free i
  ]

  pub at_other : (u : ℕ) → u ≢ from → u ≢ to → mark_at after u ≡ mark_at marks u
  at_other u n k = get_or-set_other (set marks from m) to u m mark.Free k ∙ get_or-set_other marks from u m mark.Free n

  -- each node is an end or keeps its mark
  pub end_or_other : (u : ℕ) → ((u ≡ from) ⊎ (u ≡ to)) ⊎ (mark_at after u ≡ mark_at marks u)
  end_or_other u = elim (cases_eq u from) [
    | inl e ↦ inl (inl e)
    | inr n ↦ elim (cases_eq u to) [ inl e ↦ inl (inr e) | inr k ↦ inr (at_other u n k) ]
  ]

  at_end : (u : ℕ) → (u ≡ from) ⊎ (u ≡ to) → mark_at after u ≡ m
  at_end u (inl e) = ap (mark_at after) e ∙ at_from
  at_end u (inr e) = ap (mark_at after) e ∙ at_to

-- ---- a step more

module _ (vars : List VarInfo) (apart : List ℕ) (cs : List Conj) (marks : List Mark) (a : AreMarksOf vars apart cs marks) where
  pub marks_quiet : (c : Conj) → ((void : ℕ → Bool) → IsMarkedBy void c) → AreMarksOf vars apart (c ∷ cs) marks
  marks_quiet c h = record {
    there = λ void all. a.there void (Rattle.std.proofs.lemmas.List.Elements.All-tail (IsMarkedBy void) c cs all);
    back = λ void g. All-cons (IsMarkedBy void) c cs (h void) (a.back void g);
    cells = a.cells;
    written = a.written;
  }

  -- the ends are written
  module _ (from to : ℕ) (i : from < length marks) (j : to < length marks) (p : mark_at marks from ≢ mark.Unwritten) (q : mark_at marks to ≢ mark.Unwritten) where
    abbrev now : List Mark
    now = set (set marks from mark.Written) to mark.Written

    not_unwritten : (u : ℕ) → (u ≡ from) ⊎ (u ≡ to) → mark_at marks u ≢ mark.Unwritten
    not_unwritten u (inl e) g = p (ap (mark_at marks) (sym e) ∙ g)
    not_unwritten u (inr e) g = q (ap (mark_at marks) (sym e) ∙ g)

    agrees_before : (void : ℕ → Bool) → Agrees void now → Agrees void marks
    agrees_before void g = record {
      unwritten = λ u e. elim (end_or_other marks from to i j mark.Written u) [
        | inl o ↦ absurd (not_unwritten u o e)
        | inr o ↦ g.unwritten u (o ∙ e)
      ];
      written = λ u e. elim (end_or_other marks from to i j mark.Written u) [
        | inl o ↦ g.written u (at_end marks from to i j mark.Written u o)
        | inr o ↦ g.written u (o ∙ e)
      ];
    }

    not_both : mark.Written ≡ mark.Unwritten → ⊥
    not_both e = cc

    end_false : (void : ℕ → Bool) → (void from ≡ false) × (void to ≡ false) → (u : ℕ) → (u ≡ from) ⊎ (u ≡ to) → void u ≡ false
    end_false void h u (inl e) = ap void e ∙ h.0
    end_false void h u (inr e) = ap void e ∙ h.1

    agrees_after : (void : ℕ → Bool) → Agrees void marks → (void from ≡ false) × (void to ≡ false) → Agrees void now
    agrees_after void g h = record {
      unwritten = λ u e. elim (end_or_other marks from to i j mark.Written u) [
        | inl o ↦ absurd (not_both (sym (at_end marks from to i j mark.Written u o) ∙ e))
        | inr o ↦ g.unwritten u (sym o ∙ e)
      ];
      written = λ u e. elim (end_or_other marks from to i j mark.Written u) [
        | inl o ↦ end_false void h u o
        | inr o ↦ g.written u (sym o ∙ e)
      ];
    }

    pub still_written : (u : ℕ) → mark_at marks u ≡ mark.Written → mark_at now u ≡ mark.Written
    still_written u e = elim (end_or_other marks from to i j mark.Written u) [
      | inl o ↦ at_end marks from to i j mark.Written u o
      | inr o ↦ o ∙ e
    ]

    pub marks_written : (others : List ℕ) (new : List Conj) →
        ((void : ℕ → Bool) → All (IsMarkedBy void) new → (void from ≡ false) × (void to ≡ false)) →
        ((void : ℕ → Bool) → Agrees void now → All (IsMarkedBy void) new) →
        ((k : ℕ) → k < length others → mark_at now (get_or others k 0 + 1) ≡ mark.Written) → AreMarksOf vars others (new ++ cs) now
    marks_written others new there back written = record {
      there = λ void all. agrees_after void (a.there void (All-right (IsMarkedBy void) new cs all)) (there void (All-left (IsMarkedBy void) new cs all));
      back = λ void g. All-append (IsMarkedBy void) new cs (back void g) (a.back void (agrees_before void g));
      cells = λ x i e g. elim (end_or_other marks from to i' j mark.Written (x + 1)) [
        | inl o ↦ absurd (not_both (sym (at_end marks from to i' j mark.Written (x + 1) o) ∙ e))
        | inr o ↦ a.cells x i (sym o ∙ e) g
      ];
      written = written;
    }
      where
        i' : from < length marks
        i' = i

  -- a node is unwritten
  module _ (u : ℕ) (i : u < length marks) (p : mark_at marks u ≢ mark.Written) (cell : (x : ℕ) (f : VarInfo) → u ≡ x + 1 → slice_get vars x ≡ Some f → f.sort ≡ Cell) where
    abbrev void_now : List Mark
    void_now = set (set marks u mark.Unwritten) u mark.Unwritten

    one : (v : ℕ) → (v ≡ u) ⊎ (v ≡ u) → v ≡ u
    one v (inl e) = e
    one v (inr e) = e

    no_two : mark.Unwritten ≡ mark.Written → ⊥
    no_two e = cc

    pub marks_unwritten : (new : List Conj) → ((void : ℕ → Bool) → All (IsMarkedBy void) new → void u ≡ true) →
        ((void : ℕ → Bool) → Agrees void void_now → All (IsMarkedBy void) new) → AreMarksOf vars apart (new ++ cs) void_now
    marks_unwritten new there back = record {
      there = λ void all.
          let g = a.there void (All-right (IsMarkedBy void) new cs all) in
          let h = there void (All-left (IsMarkedBy void) new cs all) in
          record {
            unwritten = λ v e. elim (end_or_other marks u u i i mark.Unwritten v) [
              | inl o ↦ ap void (one v o) ∙ h
              | inr o ↦ g.unwritten v (sym o ∙ e)
            ];
            written = λ v e. elim (end_or_other marks u u i i mark.Unwritten v) [
              | inl o ↦ absurd (no_two (sym (at_end marks u u i i mark.Unwritten v o) ∙ e))
              | inr o ↦ g.written v (sym o ∙ e)
            ];
          };
      back = λ void g. All-append (IsMarkedBy void) new cs (back void g) (a.back void (record {
        unwritten = λ v e. elim (end_or_other marks u u i i mark.Unwritten v) [
          | inl o ↦ g.unwritten v (at_end marks u u i i mark.Unwritten v o)
          | inr o ↦ g.unwritten v (o ∙ e)
        ];
        written = λ v e. elim (end_or_other marks u u i i mark.Unwritten v) [
          | inl o ↦ absurd (p (ap (mark_at marks) (sym (one v o)) ∙ e))
          | inr o ↦ g.written v (o ∙ e)
        ];
      }));
      cells = λ x f e g. elim (end_or_other marks u u i i mark.Unwritten (x + 1)) [
        | inl o ↦ cell x f (sym (one (x + 1) o)) g
        | inr o ↦ a.cells x f (sym o ∙ e) g
      ];
      written = λ k l. elim (end_or_other marks u u i i mark.Unwritten (get_or apart k 0 + 1)) [
        | inl o ↦ absurd (p (ap (mark_at marks) (sym (one (get_or apart k 0 + 1) o)) ∙ a.written k l))
        | inr o ↦ o ∙ a.written k l
      ];
    }

-- ---- the claim of a conjunct

module _ (vars : List VarInfo) (apart : List ℕ) (cs : List Conj) (marks : List Mark) (a : AreMarksOf vars apart cs marks) (c : Conj) where
  abbrev Marked : Claim → List Mark → Type 0
  Marked k now = AreMarksOf vars apart (c ∷ cs) now

  written_conjunct : (k : Claim) → IsOfConjunct k → IsClaimOf c k → (from_of k < length marks) → (to_of k < length marks) →
      ((void : ℕ → Bool) → EndsAre void k → (void (from_of k) ≡ false) × (void (to_of k) ≡ false)) →
      ((void : ℕ → Bool) → (void (from_of k) ≡ false) × (void (to_of k) ≡ false) → EndsAre void k) →
      mark_at marks (from_of k) ≢ mark.Unwritten → mark_at marks (to_of k) ≢ mark.Unwritten →
      AreMarksOf vars apart (c ∷ cs) (set (set marks (from_of k) mark.Written) (to_of k) mark.Written)
  written_conjunct k o q i j ends back m n = marks_written vars apart cs marks a (from_of k) (to_of k) i j m n apart (c ∷ [])
      (λ void all. ends void (ends_of_conjunct void c k o q (All-head (IsMarkedBy void) c [] all)))
      (λ void g. All-cons (IsMarkedBy void) c [] (conjunct_of_ends void c k o q (back void (
        g.written (from_of k) (at_from marks (from_of k) (to_of k) i j mark.Written),
        g.written (to_of k) (at_to marks (from_of k) (to_of k) i j mark.Written),
      ))) (All-nil (IsMarkedBy void)))
      (λ l b. still_written vars apart cs marks a (from_of k) (to_of k) i j m n (get_or apart l 0 + 1) (a.written l b))

  pub marks_claimed : (k : Claim) → IsOfConjunct k → IsClaimOf c k → from_of k < length marks → to_of k < length marks → MayMark vars marks k →
      AreMarksOf vars apart (c ∷ cs) (marked marks (ends_of marks k) (mark_of k))
  marks_claimed claim.Nothing o q i j m = absurd o
  marks_claimed (claim.Words d) o q i j m = written_conjunct (claim.Words d) o q i j (λ void h. h) (λ void h. h) m.0 m.1
  marks_claimed (claim.Places d) o q i j m = written_conjunct (claim.Places d) o q i j (λ void h. h) (λ void h. h) m.0 m.1
  marks_claimed (claim.Written u) o q i j m = written_conjunct (claim.Written u) o q i j (λ void h. h) (λ void h. h) m.0 m.1
  marks_claimed (claim.Unwritten u) o q i j m = marks_unwritten vars apart cs marks a u i m.1 m.0 (c ∷ [])
      (λ void all. ends_of_conjunct void c (claim.Unwritten u) o q (All-head (IsMarkedBy void) c [] all))
      (λ void g. All-cons (IsMarkedBy void) c [] (conjunct_of_ends void c (claim.Unwritten u) o q (g.unwritten u (at_to marks u u i i mark.Unwritten))) (All-nil (IsMarkedBy void)))
  marks_claimed (claim.Apart u) o q i j m = absurd o

  -- ---- what can't be marked

  not_void : (void : ℕ → Bool) (u : ℕ) → Agrees void marks → mark_at marks u ≡ mark.Unwritten → void u ≡ false → ⊥
  not_void void u g e h = never_both (void u) (g.unwritten u e) h

  pub unmarkable : (k : Claim) → IsOfConjunct k → IsClaimOf c k → CannotMark vars marks k → (void : ℕ → Bool) →
      ((x : ℕ) (f : VarInfo) → void (x + 1) ≡ true → slice_get vars x ≡ Some f → f.sort ≡ Cell) → ¬ All (IsMarkedBy void) (c ∷ cs)
  unmarkable k o q h void cells all =
      let g = a.there void (Rattle.std.proofs.lemmas.List.Elements.All-tail (IsMarkedBy void) c cs all) in
      against k h (ends_of_conjunct void c k o q (All-head (IsMarkedBy void) c cs all)) g
    where
      against : (k : Claim) → CannotMark vars marks k → EndsAre void k → Agrees void marks → ⊥
      against (claim.Unwritten u) (inl n) e g = n.sort (cells n.variable n.info (ap void (sym n.node) ∙ e) n.is)
      against (claim.Unwritten u) (inr n) e g = never_both (void u) e (g.written u n)
      against claim.Nothing (inl n) e g = not_void void 0 g n e.0
      against claim.Nothing (inr n) e g = not_void void 0 g n e.1
      against (claim.Words d) (inl n) e g = not_void void d.from g n e.0
      against (claim.Words d) (inr n) e g = not_void void d.to g n e.1
      against (claim.Places d) (inl n) e g = not_void void d.from g n e.0
      against (claim.Places d) (inr n) e g = not_void void d.to g n e.1
      against (claim.Written u) (inl n) e g = not_void void u g n e.0
      against (claim.Written u) (inr n) e g = not_void void u g n e.1
      against (claim.Apart u) (inl n) e g = not_void void u g n e.0
      against (claim.Apart u) (inr n) e g = not_void void 0 g n e.1

-- ---- a place apart

module _ (vars : List VarInfo) (apart : List ℕ) (cs : List Conj) (marks : List Mark) (a : AreMarksOf vars apart cs marks) (x : ℕ) where
  abbrev other : ℕ → Conj
  other y = OtherPlace (place_of_variable x) (place_of_variable y)

  abbrev first : Conj
  first = OtherPlace (place_of_variable x) place.Null

  pub apart_ends : (void : ℕ → Bool) → All (IsMarkedBy void) (apart_conjuncts x apart) → (void (x + 1) ≡ false) × (void 0 ≡ false)
  apart_ends void all = (All-head (IsMarkedBy void) first (map other apart) all).place (same_or_other (place_of_variable x) place.Null false) refl

  place_marked : (void : ℕ → Bool) (y : ℕ) → void (x + 1) ≡ false → void (y + 1) ≡ false → IsMarkedBy void (other y)
  place_marked void y p q = record {
    word = λ d e. absurd (none-some d e);
    place = λ d e. subst (λ (z : Difference). (void z.from ≡ false) × (void z.to ≡ false)) (same_Some (same_or_other (place_of_variable x) (place_of_variable y) false) d e) (p, q);
    unwritten = λ u e. absurd (none-some u e);
    written = λ u e. absurd (none-some u e);
  }

  first_marked : (void : ℕ → Bool) → void (x + 1) ≡ false → void 0 ≡ false → IsMarkedBy void first
  first_marked void p q = record {
    word = λ d e. absurd (none-some d e);
    place = λ d e. subst (λ (z : Difference). (void z.from ≡ false) × (void z.to ≡ false)) (same_Some (same_or_other (place_of_variable x) place.Null false) d e) (p, q);
    unwritten = λ u e. absurd (none-some u e);
    written = λ u e. absurd (none-some u e);
  }

  pub marks_apart : x + 1 < length marks → 0 < length marks → MayMark vars marks (claim.Apart (x + 1)) →
      AreMarksOf vars (x ∷ apart) (apart_conjuncts x apart ++ cs) (marked marks (ends_of marks (claim.Apart (x + 1))) mark.Written)
  marks_apart i j m = marks_written vars apart cs marks a (x + 1) 0 i j m.0 m.1 (x ∷ apart) (apart_conjuncts x apart) apart_ends
      (λ void g.
      let p = g.written (x + 1) (at_from marks (x + 1) 0 i j mark.Written) in
      let q = g.written 0 (at_to marks (x + 1) 0 i j mark.Written) in
      All-cons (IsMarkedBy void) first (map other apart) (first_marked void p q)
      (All-map (IsMarkedBy void) other apart (λ k d l.
      let w = still_written vars apart cs marks a (x + 1) 0 i j m.0 m.1 (get_or apart k 0 + 1) (a.written k l) in
      subst (λ y. IsMarkedBy void (other y)) (get_or_default apart k 0 d l) (place_marked void (get_or apart k 0) p (g.written (get_or apart k 0 + 1) w)))))
      written_now
    where
      written_now : (k : ℕ) → k < length (x ∷ apart) → mark_at (set (set marks (x + 1) mark.Written) 0 mark.Written) (get_or (x ∷ apart) k 0 + 1) ≡ mark.Written
      written_now zero l = at_from marks (x + 1) 0 i j mark.Written
      written_now (suc k) l = still_written vars apart cs marks a (x + 1) 0 i j m.0 m.1 (get_or apart k 0 + 1) (a.written k (omega arith))

  pub unmarkable_apart : CannotMark vars marks (claim.Apart (x + 1)) → (void : ℕ → Bool) → ¬ All (IsMarkedBy void) (apart_conjuncts x apart ++ cs)
  unmarkable_apart (inl n) void all =
      let g = a.there void (All-right (IsMarkedBy void) (apart_conjuncts x apart) cs all) in
      never_both (void (x + 1)) (g.unwritten (x + 1) n) (apart_ends void (All-left (IsMarkedBy void) (apart_conjuncts x apart) cs all)).0
  unmarkable_apart (inr n) void all =
      let g = a.there void (All-right (IsMarkedBy void) (apart_conjuncts x apart) cs all) in
      never_both (void 0) (g.unwritten 0 n) (apart_ends void (All-left (IsMarkedBy void) (apart_conjuncts x apart) cs all)).1

-- ---- a variable

module _ (vars : List VarInfo) (apart : List ℕ) (cs : List Conj) (marks : List Mark) (a : AreMarksOf vars apart cs marks) (info : VarInfo) (size : length marks ≡ length vars + 1) where
  same_mark : (u : ℕ) → mark_at (marks ++ mark.Free ∷ []) u ≡ mark_at marks u
  same_mark u = elim (cases_lt u (length marks)) [
    | inl l ↦ get_or-append marks (mark.Free ∷ []) mark.Free u l
    | inr l ↦ elim (cases_eq u (length marks)) [
      | inl e ↦ get_or_push marks mark.Free mark.Free u (sym e) ∙ sym (get_or_past marks u mark.Free l)
      | inr n ↦ let k = length-append marks (mark.Free ∷ []) in get_or_past (marks ++ mark.Free ∷ []) u mark.Free (omega arith) ∙ sym (get_or_past marks u mark.Free l)
    ]
  ]

  no_mark : mark.Free ≡ mark.Unwritten → ⊥
  no_mark e = cc

  pub marks_more : AreMarksOf (vars ++ info ∷ []) apart cs (marks ++ mark.Free ∷ [])
  marks_more = record {
    there = λ void all. let g = a.there void all in record { unwritten = λ u e. g.unwritten u (sym (same_mark u) ∙ e); written = λ u e. g.written u (sym (same_mark u) ∙ e) };
    back = λ void g. a.back void (record { unwritten = λ u e. g.unwritten u (same_mark u ∙ e); written = λ u e. g.written u (same_mark u ∙ e) });
    cells = λ x i e g.
        let f = sym (same_mark (x + 1)) ∙ e in
        elim (cases_lt (x + 1) (length marks)) [
          | inl l ↦ a.cells x i f (old_var vars info x i (omega arith) g)
          | inr l ↦ absurd (no_mark (sym (get_or_past marks (x + 1) mark.Free l) ∙ f))
        ];
    written = λ k l. same_mark (get_or apart k 0 + 1) ∙ a.written k l;
  }
