-- An assignment that meets clauses makes true what unit clauses force, and meets what follows.
use Rattle.std.proofs.Common.{◌≡◌, inl, inr, ℕ, suc, List, [], ◌∷◌, ◌++◌, refl, sym, ap, subst, ◌∙◌, arith}
use Rattle.std.specs.Prelude.{Bool, true, false, ◌||◌, Contains}
use Rattle.std.specs.List.{list_any}
use Rattle.std.proofs.lemmas.Bool.{cases_Bool, and_from, not-true, not-false}
use Rattle.px_terms.proofs.Tests.{never_both}
use Rattle.px_cnf.specs.declared.literal.Literal.{Literal}
use Rattle.px_cnf.specs.Clauses.{Assignment, holds, negated, is_met, are_met, Meets, Forced, is_given, by_unit, IsFalsified}
use Rattle.px_cnf.proofs.Meeting.{contains_head, none_passes, holds-negated, meets_both, meets_parts, meets_at}
use Rattle.px_sat.specs.Logs.{IsDenied, Follows, IsLog}
use Rattle.px_sat.specs.Verdicts.{EndsEmpty}

-- a literal is false where its negation is true
negation_false : (a : Assignment) (l : Literal) → holds a (negated l) ≡ true → holds a l ≡ false
negation_false a l e = not-true (holds a l) (sym (holds-negated a l) ∙ e)

-- no element passes, so none does
all_fail : {X : Type 0} (p : X → Bool) (xs : List X) → ((x : X) → Contains xs x → p x ≡ false) → list_any p xs ≡ false
all_fail p [] h = refl
all_fail p (x ∷ xs) h = ap (λ b. b || list_any p xs) (h x (contains_head x xs)) ∙ all_fail p xs (λ y (k, l, e). h y (suc k, omega arith, e))

module _ (a : Assignment) (clauses : List (List Literal)) (met : Meets a clauses) (given : Literal → Type 0) (are_true : (l : Literal) → given l → holds a l ≡ true) where
  pub forced_holds : (l : Literal) → Forced clauses given l → holds a l ≡ true
  forced_holds l (is_given g) = are_true l g
  forced_holds l (by_unit c stands there others) = elim (cases_Bool (holds a l)) [
    | inl e ↦ e
    | inr e ↦ absurd (never_both (is_met a c) (meets_at a clauses c met stands)
        (all_fail (holds a) c (λ m k. elim (cases_Bool (holds a m)) [
          | inl f ↦ negation_false a m (forced_holds (negated m) (others m k (λ q. never_both (holds a l) (subst (λ x. holds a x ≡ true) q f) e)))
          | inr f ↦ f
        ])))
  ]

  pub not_falsified : IsFalsified clauses given → ⊥
  not_falsified f = never_both (is_met a f.clause) (meets_at a clauses f.clause met f.stands) (all_fail (holds a) f.clause (λ m k. negation_false a m (forced_holds (negated m) (f.is_false m k))))

pub follows_met : (a : Assignment) (clauses : List (List Literal)) (clause : List Literal) → Meets a clauses → Follows clauses clause → is_met a clause ≡ true
follows_met a clauses clause met f = elim (cases_Bool (is_met a clause)) [
  | inl e ↦ e
  | inr e ↦ absurd (not_falsified a clauses met (IsDenied clause) (λ l k. not-false (holds a l) (sym (holds-negated a l) ∙ none_passes (holds a) clause (negated l) e k)) f)
]

-- each clause of a log is met
log_met : (a : Assignment) (n : ℕ) (clauses log : List (List Literal)) → Meets a clauses → IsLog n clauses log → Meets a log
log_met a n clauses [] met h = refl
log_met a n clauses (c ∷ log) met (i, f, rest) =
    let here = follows_met a clauses c met f in
    and_from (is_met a c) (are_met a log) here (log_met a n (clauses ++ c ∷ []) log (meets_both a clauses (c ∷ []) met (and_from (is_met a c) true here refl)) rest)

-- so no assignment meets the clauses, where the last clause is empty
pub none_meets : (a : Assignment) (n : ℕ) (clauses log : List (List Literal)) → IsLog n clauses log → EndsEmpty log → ¬ Meets a clauses
none_meets a n clauses log h (before, e) met =
    let last : false ≡ true = (meets_parts a before ([] ∷ []) (subst (Meets a) e (log_met a n clauses log met h))).1 in cc
