-- The steps that derive an entry are found again, where it is known that there are some: steps can be gone through,
-- and whether they derive the entry can be decided.
use Rattle.std.proofs.Common.{◌≡◌, ℕ, zero, suc, List, [], ◌∷◌, refl, sym, ap, subst}
use Rattle.std.specs.Coded.{Coded, codes}
use mathlib.Core.Logic.{∥∥₁_elim, ∥∥₁_map}
use base.Stored.{Gv, gnil, gnum, gcons}
use Rattle.px_entry.specs.declared.entries.Entry.{Entry}
use Rattle.px_entry.specs.declared.derivations.Rule.{Rule}
use Rattle.px_entry.specs.declared.derivations.Step.{Step}
use Rattle.px_entry.specs.Satisfied.{IsSatisfied}
use Rattle.px_entry.specs.Rules.{rule_number, all_rules, rule_of}
use Rattle.px_entry.proofs.RuleLemmas.{rule_of_number}
use Rattle.px_callgraph.specs.JobTree.{JobTree}
use Rattle.px_callgraph.specs.declared.outcomes.StepOutcome.TheVariants.{Next}
use Rattle.px_callgraph.specs.Alternatives.{start}
use Rattle.px_callgraph.specs.Derivations.{Course, fails_at, comes_to, unsaid, course, IsEndOf, Derives}
use Rattle.px_soundness.proofs.Valid.{entry_at, entry_is}
use Rattle.px_soundness.proofs.Search.{Counted, among_at, all_of, among_all, found, counted_numbers, counted_pairs, counted_lists}
use Rattle.px_soundness.proofs.SatisfiedOnce.{satisfied_once}

-- ---- equal or not

equal_or_not : (n m : ℕ) → Dec (n ≡ m)
equal_or_not zero zero = yes refl
equal_or_not zero (suc m) = no (λ e. cc)
equal_or_not (suc n) zero = no (λ e. cc)
equal_or_not (suc n) (suc m) = by (equal_or_not n m)
  where
    by : Dec (n ≡ m) → Dec (suc n ≡ suc m)
    by (yes e) = yes (ap suc e)
    by (no h) = no (λ e. h (cc))

code_or_not : (g h : Gv) → Dec (g ≡ h)
code_or_not gnil gnil = yes refl
code_or_not gnil (gnum m) = no (λ e. cc)
code_or_not gnil (gcons c d) = no (λ e. cc)
code_or_not (gnum n) gnil = no (λ e. cc)
code_or_not (gnum n) (gnum m) = by (equal_or_not n m)
  where
    by : Dec (n ≡ m) → Dec (gnum n ≡ gnum m)
    by (yes e) = yes (ap gnum e)
    by (no h) = no (λ e. h (cc))
code_or_not (gnum n) (gcons c d) = no (λ e. cc)
code_or_not (gcons a b) gnil = no (λ e. cc)
code_or_not (gcons a b) (gnum m) = no (λ e. cc)
code_or_not (gcons a b) (gcons c d) = by (code_or_not a c) (code_or_not b d)
  where
    by : Dec (a ≡ c) → Dec (b ≡ d) → Dec (gcons a b ≡ gcons c d)
    by (yes e) (yes f) = yes (cc)
    by (yes e) (no h) = no (λ f. h (cc))
    by (no h) r = no (λ f. h (cc))

entry_code : Coded Entry
entry_code = hlevel codes

entry_or_not : (x y : Entry) → Dec (x ≡ y)
entry_or_not x y = by (code_or_not (entry_code.code x) (entry_code.code y))
  where
    by : Dec (entry_code.code x ≡ entry_code.code y) → Dec (x ≡ y)
    by (yes e) = yes (entry_code.inj x y e)
    by (no h) = no (λ e. h (ap entry_code.code e))

-- ---- steps

abbrev a_step : Rule → List ℕ → Step
a_step r choices = record { rule = r; choices = choices }

counted_steps : Counted Step
unfolding rule_of
counted_steps =
    let choices = counted_lists counted_numbers in
    record {
      first = λ n. all_of a_step all_rules (choices.first n);
      number = λ (st : Step). choices.number st.choices;
      reached = λ (st : Step) n l. among_all a_step st.rule st.choices all_rules (choices.first n) (among_at (rule_number st.rule) all_rules st.rule (rule_of_number st.rule)) (choices.reached st.choices n l);
    }

-- ---- derivations

module _ (j : JobTree) (x : Entry) where
  -- it comes to an end of the path that has the entry's fields, and nothing is after it
  abbrev EndsIn : Course → Type 0
  EndsIn (comes_to i s e r []) = entry_at j s e r x.model ≡ x
  EndsIn (comes_to i s e r (st ∷ rest)) = ⊥
  EndsIn (fails_at i r) = ⊥
  EndsIn unsaid = ⊥

  ends_or_not : (c : Course) → Dec (EndsIn c)
  ends_or_not (comes_to i s e r []) = entry_or_not (entry_at j s e r x.model) x
  ends_or_not (comes_to i s e r (st ∷ rest)) = no (λ h. h)
  ends_or_not (fails_at i r) = no (λ h. h)
  ends_or_not unsaid = no (λ h. h)

  -- so many acts, by these steps
  abbrev Lead : ℕ × List Step → Type 0
  Lead p = EndsIn (course p.0 j 0 p.1 (Next (start j)))

  lead : (steps : List Step) → Derives j x steps → (p : ℕ × List Step) × Lead p
  lead steps d = ((d.runs.0, steps), subst EndsIn (sym d.runs.1) (entry_is j d.state d.exit d.result x d.is_end))

  derive : (n : ℕ) (steps : List Step) → IsSatisfied x → (c : Course) → course n j 0 steps (Next (start j)) ≡ c → EndsIn c → Derives j x steps
  derive n steps satisfied (comes_to i s e r []) is at = record {
    place = i;
    state = s;
    exit = e;
    result = r;
    runs = (n, is);
    is_end = subst (IsEndOf j s e r) at (record { proc = refl; trace = refl; exit = refl; result = refl; vars = refl; pure = refl; pre = refl; post = refl; satisfied = subst IsSatisfied (sym at) satisfied });
  }
  derive n steps satisfied (comes_to i s e r (st ∷ rest)) is at = absurd at
  derive n steps satisfied (fails_at i r) is at = absurd at
  derive n steps satisfied unsaid is at = absurd at

  pub derived_again : ∥ ((steps : List Step) × Derives j x steps) ∥₁ → (steps : List Step) × Derives j x steps
  derived_again h =
      let (p, leads) = found (counted_pairs counted_numbers (counted_lists counted_steps)) Lead (λ p. ends_or_not (course p.0 j 0 p.1 (Next (start j)))) (∥∥₁_map h (λ (steps, d). lead steps d)) in
      (p.1, derive p.0 p.1 (∥∥₁_elim h (satisfied_once x) (λ (steps, d). d.is_end.satisfied)) (course p.0 j 0 p.1 (Next (start j))) refl leads)
