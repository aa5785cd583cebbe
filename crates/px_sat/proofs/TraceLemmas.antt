-- Literals that are marked.
use Rattle.std.proofs.Common.{◌≡◌, ◌≢◌, ℕ, suc, ◌+◌, ◌-◌, ◌<◌, ◌≤◌, Bool, true, false, List, [], ◌∷◌, ◌++◌, refl, sym, ap, ◌∙◌, subst, length, get_or, set, max, inl, inr, arith}
use Rattle.std.specs.List.{Contains}
use Rattle.std.proofs.lemmas.Bool.{cases_eq, cases_lt}
use Rattle.std.proofs.lemmas.List.{get_or-set_same, get_or-set_other, length-set}
use Rattle.std.proofs.lemmas.List.Elements.{Contains-append_left, Contains-push, Contains-push_cases, All-append, All-cons, All-nil}
use Rattle.px_cnf.specs.Clauses.{negated}
use Rattle.px_cnf.specs.declared.literal.Literal.{Literal}
use Rattle.px_sat.specs.declared.step.Step.{Step}
use Rattle.px_sat.specs.Logs.{AreApart}
use Rattle.px_sat.specs.Steps.{literal_at, IsPlaceOf, NoneHas}
use Rattle.px_sat.specs.Searches.{IsTracing, IsFalseBefore, Marks}
use Rattle.px_sat.proofs.LiteralLemmas.{negated_twice}

contains_one : (l m : Literal) → Contains (l ∷ []) m → l ≡ m
contains_one l m c = elim (Contains-push_cases [] l m c) [ inl (k, h, e) ↦ absurd (omega arith) | inr e ↦ e ]

pub apart_push : (ls : List Literal) (l : Literal) → AreApart ls → ((m : Literal) → Contains ls m → l.variable ≢ m.variable) → AreApart (ls ++ l ∷ [])
apart_push [] l h f = (All-nil (λ m. m.variable ≢ l.variable), tt)
apart_push (k ∷ ks) l h f = (
  All-append (λ m. m.variable ≢ k.variable) ks (l ∷ []) h.0 (All-cons (λ m. m.variable ≢ k.variable) l [] (f k (0, omega arith, refl)) (All-nil (λ m. m.variable ≢ k.variable))),
  apart_push ks l h.1 (λ m (i, n, e). f m (suc i, omega arith, e)),
)

module _ (steps : List Step) (start : ℕ) (marked : List Bool) (parts : List Literal) (low : ℕ) (l : Literal) (h : IsTracing steps start marked parts low) where
  pub marks_none : NoneHas steps l.variable → Marks steps (l ∷ []) marked marked
  marks_none none = record {
    keeps = λ p m. m;
    marked = λ p m n c e. absurd (none p (n, e ∙ ap (λ (k : Literal). k.variable) (sym (contains_one l m c))));
    only = λ p m. inl m;
  }

  module _ (place : ℕ) (at : IsPlaceOf steps l.variable place) where
    the_place : (p : ℕ) (m : Literal) → p < length steps → Contains (l ∷ []) m → (literal_at steps p).variable ≡ m.variable → p ≡ place
    the_place p m n c e = h.distinct p place n at.0 (e ∙ ap (λ (k : Literal). k.variable) (sym (contains_one l m c)) ∙ sym at.1)

    pub marks_again : get_or marked place false ≡ true → Marks steps (l ∷ []) marked marked
    marks_again t = record {
      keeps = λ p m. m;
      marked = λ p m n c e. ap (λ k. get_or marked k false) (the_place p m n c e) ∙ t;
      only = λ p m. inl m;
    }

    abbrev new : List Bool
    new = set marked place true

    here : get_or new place false ≡ true
    here = get_or-set_same marked place true false (let a = h.all in let b = at.0 in omega arith)

    kept : (p : ℕ) → get_or marked p false ≡ true → get_or new p false ≡ true
    kept p t = elim (cases_eq p place) [
      | inl e ↦ ap (λ k. get_or new k false) e ∙ here
      | inr d ↦ get_or-set_other marked place p true false d ∙ t
    ]

    was : (p : ℕ) → p ≢ place → get_or new p false ≡ true → get_or marked p false ≡ true
    was p d t = sym (get_or-set_other marked place p true false d) ∙ t

    pub marks_new : Marks steps (l ∷ []) marked (set marked place true)
    marks_new = record {
      keeps = kept;
      marked = λ p m n c e. ap (λ k. get_or new k false) (the_place p m n c e) ∙ here;
      only = λ p t. elim (cases_eq p place) [
        | inl e ↦ inr (l, (0, omega arith, refl), ap (λ k. (literal_at steps k).variable) e ∙ at.1)
        | inr d ↦ inl (was p d t)
      ];
    }

    -- a step that isn't before the start is no part
    pub tracing_after : start ≤ place → IsTracing steps start (set marked place true) parts low
    tracing_after late = record {
      distinct = h.distinct;
      placed = h.placed;
      all = length-set marked place true ∙ h.all;
      stands = λ m c. let (p, n, t, e) = h.stands m c in (p, n, kept p t, e);
      found = λ p n t. h.found p n (was p (omega arith) t);
      apart = h.apart;
      inside = h.inside;
      last = h.last;
    }

    module _ (unmarked : get_or marked place false ≡ false) (early : place < start) (false_before : IsFalseBefore steps start l) where
      its_literal : literal_at steps place ≡ negated l
      its_literal = false_before place early at.0 at.1

      other_variable : (m : Literal) → Contains parts m → l.variable ≢ m.variable
      other_variable m c e =
          let (p, n, t, f) = h.stands m c in
          let q : p ≡ place = h.distinct p place (let a = h.inside in let b = h.placed in omega arith) at.0 (ap (λ (k : Literal). k.variable) f ∙ sym e ∙ sym at.1) in
          let g : false ≡ true = sym unmarked ∙ sym (ap (λ k. get_or marked k false) q) ∙ t in cc

      new_last : 0 < max low (place + 1) → (m : Literal) × Contains (parts ++ l ∷ []) m × (literal_at steps (max low (place + 1) - 1) ≡ negated m)
      new_last _ = elim (cases_lt place low) [
        | inl a ↦ (let (m, c, e) = h.last (omega arith) in (m, Contains-append_left parts (l ∷ []) m c, ap (λ k. literal_at steps (k - 1)) (let f : max low (place + 1) ≡ low = omega arith in f) ∙ e))
        | inr a ↦ (l, Contains-push parts l, ap (λ k. literal_at steps k) (let f : max low (place + 1) - 1 ≡ place = omega arith in f) ∙ its_literal)
      ]

      pub tracing_before : IsTracing steps start (set marked place true) (parts ++ l ∷ []) (max low (place + 1))
      tracing_before = record {
        distinct = h.distinct;
        placed = h.placed;
        all = length-set marked place true ∙ h.all;
        stands = λ m c. elim (Contains-push_cases parts l m c) [
          | inl a ↦ (let (p, n, t, e) = h.stands m a in (p, omega arith, kept p t, e))
          | inr e ↦ (place, omega arith, here, its_literal ∙ ap negated e)
        ];
        found = λ p n t. elim (cases_eq p place) [
          | inl e ↦ subst (Contains (parts ++ l ∷ [])) (sym (ap (λ k. negated (literal_at steps k)) e ∙ ap negated its_literal ∙ negated_twice l)) (Contains-push parts l)
          | inr d ↦ Contains-append_left parts (l ∷ []) _ (h.found p n (was p d t))
        ];
        apart = apart_push parts l h.apart other_variable;
        inside = (let a = h.inside in omega arith);
        last = new_last;
      }
