-- Clauses whose literals are marked one after another.
use Rattle.std.proofs.Common.{◌≡◌, ℕ, ◌+◌, ◌<◌, ◌≤◌, Bool, true, false, List, [], ◌∷◌, ◌++◌, Some, sym, ap, ◌∙◌, subst, length, take, get_or, ◌⊎◌, inl, inr, arith}
use Rattle.std.proofs.lemmas.Option.{same_Some}
use Rattle.std.specs.List.{Contains, slice_get}
use Rattle.std.proofs.lemmas.Bool.{cases_eq}
use Rattle.std.proofs.lemmas.List.{take_more, length-take}
use Rattle.std.proofs.lemmas.List.Elements.{Contains-append_left, Contains-append_right, Contains-append_cases}
use Rattle.px_cnf.specs.Clauses.{negated}
use Rattle.px_cnf.specs.declared.literal.Literal.{Literal}
use Rattle.px_sat.specs.declared.step.Step.{Step}
use Rattle.px_sat.specs.Steps.{literal_at, AreDistinct, IsTrue, IsReason}
use Rattle.px_sat.specs.Searches.{Marks, AreMarked, IsFalseBefore, IsTracedFrom, AreReasons, reason_at}
use Rattle.px_sat.proofs.LiteralLemmas.{same_or_not}
use Rattle.px_sat.proofs.StepLemmas.{place_of, at_taken}

pub marks_nothing : (steps : List Step) (marked : List Bool) → Marks steps [] marked marked
marks_nothing steps marked = record {
  keeps = λ p m. m;
  marked = λ p m n (i, h, e). absurd (omega arith);
  only = λ p m. inl m;
}

pub marks_both : (steps : List Step) (a b : List Literal) (old mid new : List Bool) → Marks steps a old mid → Marks steps b mid new → Marks steps (a ++ b) old new
marks_both steps a b old mid new f g = record {
  keeps = λ p m. g.keeps p (f.keeps p m);
  marked = λ p m n c e. elim (Contains-append_cases a b m c) [ inl x ↦ g.keeps p (f.marked p m n x e) | inr y ↦ g.marked p m n y e ];
  only = λ p t. elim (g.only p t) [
    | inl s ↦ (elim (f.only p s) [
      | inl r ↦ inl r
      | inr (m, c, e) ↦ inr (m, Contains-append_left a b m c, e)
    ])
    | inr (m, c, e) ↦ inr (m, Contains-append_right a b m c, e)
  ];
}

pub marks_more : (steps : List Step) (clause : List Literal) (i : ℕ) (d : Literal) (old mid new : List Bool) → i < length clause → Marks steps (take i clause) old mid → Marks steps (get_or clause i d ∷ []) mid new → Marks steps (take (i + 1) clause) old new
marks_more steps clause i d old mid new h f g = subst (λ (c : List Literal). Marks steps c old new) (sym (take_more clause i d h)) (marks_both steps (take i clause) (get_or clause i d ∷ []) old mid new f g)

-- what is marked of literals that are false
pub false_before : (steps : List Step) (start : ℕ) (m : Literal) → AreDistinct steps → IsTrue steps (negated m) → IsFalseBefore steps start m
false_before steps start m d t p _ n e =
    let (q, k, f) = place_of steps (negated m) t in
    ap (literal_at steps) (d p q n k (e ∙ sym (ap (λ (l : Literal). l.variable) f))) ∙ f

-- ---- the clause that forced a step

module _ (clauses : List (List Literal)) (steps : List Step) (start place at : ℕ) (clause : List Literal)
    (distinct : AreDistinct steps) (reasons : AreReasons clauses steps) (late : start < place) (inside : place < length steps)
    (because : reason_at steps place ≡ Some at) (stands : slice_get clauses at ≡ Some clause) where
  reason : IsReason clauses (take place steps) (literal_at steps place) at
  reason = reasons place at inside because

  its_clause : reason.clause ≡ clause
  its_clause = same_Some _ _ (sym reason.stands ∙ stands)

  -- the place of one of its literals is the step's or before it
  its_place : (m : Literal) → Contains clause m → (m ≡ literal_at steps place) ⊎ ((q : ℕ) × (q < place) × (q < length steps) × (literal_at steps q ≡ negated m))
  its_place m c = elim (same_or_not m (literal_at steps place)) [
    | inl e ↦ inl e
    | inr d ↦ (
        let (q, n, e) = place_of (take place steps) (negated m) (reason.others m (subst (λ (k : List Literal). Contains k m) (sym its_clause) c) d) in
        let l = length-take place steps in
        inr (q, omega arith, omega arith, sym (at_taken steps place q (omega arith)) ∙ e))
  ]

  pub reason_before : (m : Literal) → Contains clause m → IsFalseBefore steps start m
  reason_before m c p early n e = elim (its_place m c) [
    | inl f ↦ absurd (let g : p ≡ place = distinct p place n inside (e ∙ ap (λ (l : Literal). l.variable) f) in omega arith)
    | inr (q, k, i, f) ↦ ap (literal_at steps) (distinct p q n i (e ∙ sym (ap (λ (l : Literal). l.variable) f))) ∙ f
  ]

  -- what is marked beside is not after the step
  not_after : (p : ℕ) (m : Literal) → p < length steps → Contains clause m → (literal_at steps p).variable ≡ m.variable → p ≤ place
  not_after p m n c e = elim (its_place m c) [
    | inl f ↦ (let g : p ≡ place = distinct p place n inside (e ∙ ap (λ (l : Literal). l.variable) f) in omega arith)
    | inr (q, k, i, f) ↦ (let g : p ≡ q = distinct p q n i (e ∙ sym (ap (λ (l : Literal). l.variable) f)) in omega arith)
  ]

  pub traced_next : (old new : List Bool) → Marks steps clause old new → IsTracedFrom clauses steps old (place + 1) → IsTracedFrom clauses steps new place
  traced_next old new marks traced p k other from n t b s = elim (cases_eq p place) [
    | inl e ↦ (
        let f : Some k ≡ Some at = sym b ∙ ap (reason_at steps) e ∙ because in
        let g : clause ≡ other = same_Some _ _ (sym stands ∙ ap (slice_get clauses) (sym (same_Some _ _ f)) ∙ s) in
        subst (AreMarked steps new) g marks.marked)
    | inr d ↦ (elim (marks.only p t) [
      | inl o ↦ (λ q m l c e. marks.keeps q (traced p k other (omega arith) n o b s q m l c e))
      | inr (m, c, e) ↦ absurd (let g = not_after p m n c e in d (omega arith))
    ])
  ]

-- an unmarked step, or one that was taken, has no clause to be marked
pub traced_unmarked : (clauses : List (List Literal)) (steps : List Step) (marked : List Bool) (place : ℕ) → get_or marked place false ≡ false → IsTracedFrom clauses steps marked (place + 1) → IsTracedFrom clauses steps marked place
traced_unmarked clauses steps marked place u traced p k clause from n t b s = elim (cases_eq p place) [
  | inl e ↦ (let f : true ≡ false = sym t ∙ ap (λ q. get_or marked q false) e ∙ u in cc)
  | inr d ↦ traced p k clause (omega arith) n t b s
]

pub traced_taken : (clauses : List (List Literal)) (steps : List Step) (marked : List Bool) (place : ℕ) → ((at : ℕ) (clause : List Literal) → reason_at steps place ≡ Some at → slice_get clauses at ≡ Some clause → ⊥) → IsTracedFrom clauses steps marked (place + 1) → IsTracedFrom clauses steps marked place
traced_taken clauses steps marked place none traced p k clause from n t b s = elim (cases_eq p place) [
  | inl e ↦ absurd (none k clause (ap (reason_at steps) (sym e) ∙ b) s)
  | inr d ↦ traced p k clause (omega arith) n t b s
]
