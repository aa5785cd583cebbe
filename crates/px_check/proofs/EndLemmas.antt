-- When an entry is the end of a path, and what that makes of the steps.
use Rattle.std.proofs.Common.{◌≡◌, ◌↔◌, inl, inr, ℕ, suc, ◌+◌, List, [], ◌∷◌, length, drop, Bool, true, false, Option, Some, None, refl, sym, ◌∙◌, ap, subst, arith}
use Rattle.std.specs.Prelude.{All}
use Rattle.std.proofs.lemmas.List.Elements.{All-append}
use Rattle.px_terms.specs.Valuations.{valuation_of, FitTogether}
use Rattle.px_terms.specs.Conjuncts.{IsTrueUnder}
use Rattle.px_terms.specs.declared.types.Value.{Value}
use Rattle.px_terms.specs.declared.variables.VarInfo.{VarInfo}
use Rattle.px_terms.specs.declared.conjuncts.Conj.{Conj}
use Rattle.px_terms.specs.declared.conjuncts.Content.{Content}
use Rattle.px_entry.specs.declared.atoms.Atom.{Atom}
use Rattle.px_entry.specs.declared.derivations.Rule.{Rule}
use Rattle.px_entry.specs.declared.derivations.Rule.TheVariants as rule
use Rattle.px_entry.specs.declared.derivations.Step.{Step}
use Rattle.px_entry.specs.declared.entries.Entry.{Entry}
use Rattle.px_entry.specs.declared.entries.Exit.{Exit}
use Rattle.px_entry.specs.Constraint.{separate}
use Rattle.px_entry.specs.Satisfied.{IsSatisfied}
use Rattle.px_callgraph.specs.declared.states.State.{State}
use Rattle.px_callgraph.specs.JobTree.{JobTree}
use Rattle.px_callgraph.specs.Laws.{IsSorted}
use Rattle.px_callgraph.specs.Derivations.{comes_to, RunsTo, IsEndOf, FailsFirst}
use Rattle.px_callgraph.proofs.ReachedLemmas.{sorted_places}
use Rattle.px_check.specs.Values.{AreInside, HavePlaces}
use Rattle.px_check.specs.Answers.{HasEnd, IsAfterEnd, IsVerdict}
use Rattle.px_check.proofs.ValueLemmas.{all_inside, all_split}

-- ---- the entry's own values

pub is_satisfied : (x : Entry) → FitTogether x.vars x.model → All (IsTrueUnder (valuation_of x.model)) x.pure → All (IsTrueUnder (valuation_of x.model)) (separate x.vars x.post) → IsSatisfied x
is_satisfied x f p q = record { size = f.size; values = record { fits = f.fits; true_of = All-append (IsTrueUnder (valuation_of x.model)) x.pure (separate x.vars x.post) p q } }

pub truths_of : (x : Entry) → IsSatisfied x → All (IsTrueUnder (valuation_of x.model)) x.pure × All (IsTrueUnder (valuation_of x.model)) (separate x.vars x.post)
truths_of x h = all_split (IsTrueUnder (valuation_of x.model)) x.pure (separate x.vars x.post) h.values.true_of

module _ (x : Entry) (vs : List VarInfo) (ms : List Value) (ps : List Conj) (ev : vs ≡ x.vars) (em : ms ≡ x.model) (ep : ps ≡ x.pure) where
  -- all of it is tested
  pub satisfied_by : (xs : List Atom) (t : Bool) → xs ≡ x.post → FitTogether vs ms → All (IsTrueUnder (valuation_of ms)) ps → (t ≡ true ↔ All (IsTrueUnder (valuation_of ms)) (separate vs xs)) → (t ≡ true ↔ IsSatisfied x)
  satisfied_by xs t ea f p k =
      let g : FitTogether x.vars x.model = subst (λ v. FitTogether v x.model) ev (subst (λ m. FitTogether vs m) em f) in
      let q : All (IsTrueUnder (valuation_of x.model)) x.pure = subst (λ z. All (IsTrueUnder (valuation_of x.model)) z) ep (subst (λ m. All (IsTrueUnder (valuation_of m)) ps) em p) in
      let to : All (IsTrueUnder (valuation_of ms)) (separate vs xs) → All (IsTrueUnder (valuation_of x.model)) (separate x.vars x.post) =
      λ h. subst (λ m. All (IsTrueUnder (valuation_of m)) (separate x.vars x.post)) em (subst (λ z. All (IsTrueUnder (valuation_of ms)) (separate x.vars z)) ea (subst (λ z. All (IsTrueUnder (valuation_of ms)) (separate z xs)) ev h)) in
      let back : All (IsTrueUnder (valuation_of x.model)) (separate x.vars x.post) → All (IsTrueUnder (valuation_of ms)) (separate vs xs) =
      λ h. subst (λ z. All (IsTrueUnder (valuation_of ms)) (separate z xs)) (sym ev) (subst (λ z. All (IsTrueUnder (valuation_of ms)) (separate x.vars z)) (sym ea) (subst (λ m. All (IsTrueUnder (valuation_of m)) (separate x.vars x.post)) (sym em) h)) in
      (λ e. is_satisfied x g q (to (k.0 e)), λ h. k.1 (back (truths_of x h).1))

  -- a conjunct isn't true
  pub untrue_by : (t : Bool) → t ≡ false → (t ≡ true ↔ All (IsTrueUnder (valuation_of ms)) ps) → (t ≡ true ↔ IsSatisfied x)
  untrue_by t e k = (
    λ f. let n : false ≡ true = sym e ∙ f in cc,
    λ h. k.1 (subst (λ m. All (IsTrueUnder (valuation_of m)) ps) (sym em) (subst (λ z. All (IsTrueUnder (valuation_of x.model)) z) (sym ep) (truths_of x h).0)),
  )

-- ---- the end of a path

module _ (j : JobTree) (s : State) (exit : Exit) (r : Option Content) (x : Entry) where
  pub pure_inside : IsSorted s → HasEnd j s exit r x → AreInside (length x.vars) x.pure
  pure_inside h e = subst (λ vs. AreInside (length vs) x.pure) (sym e.vars) (subst (AreInside (length s.vars)) (sym e.pure) (all_inside s.vars s.pure h.pure))

  pub places_inside : IsSorted s → HasEnd j s exit r x → HavePlaces (length x.vars) x.post
  places_inside h e = subst (λ vs. HavePlaces (length vs) x.post) (sym e.vars) (subst (HavePlaces (length s.vars)) (sym e.post) (sorted_places s h))

  pub is_end : HasEnd j s exit r x → IsSatisfied x → IsEndOf j s exit r x
  is_end h k = record {
    proc = h.proc;
    trace = h.trace;
    exit = h.exit;
    result = h.result;
    vars = h.vars;
    pure = h.pure;
    pre = h.pre;
    post = h.post;
    satisfied = k;
  }

  pub has_end : IsEndOf j s exit r x → HasEnd j s exit r x
  has_end h = record {
    proc = h.proc;
    trace = h.trace;
    exit = h.exit;
    result = h.result;
    vars = h.vars;
    pure = h.pure;
    pre = h.pre;
    post = h.post;
  }

  -- an `End` of another entry fails
  pub other_entry : (steps : List Step) (i : ℕ) → RunsTo j steps (comes_to i s exit r (drop (suc i) steps)) → (¬ IsEndOf j s exit r x) → FailsFirst j x steps i rule.End
  other_entry steps i runs h = inr (inl (s, exit, r, drop (suc i) steps, runs, h, refl))

  -- after an `End` a step fails, and where none is there the entry derives
  pub behind : (steps : List Step) (i k : ℕ) (o : Option (ℕ × Rule)) → k ≡ i + 1 → RunsTo j steps (comes_to i s exit r (drop (suc i) steps)) → IsEndOf j s exit r x →
      IsAfterEnd (drop k steps) k o → IsVerdict j x steps o
  behind steps i k None e runs h b =
      let n : k ≡ suc i = omega (arith, e) in
      let f : drop (suc i) steps ≡ [] = ap (λ m. drop m steps) (sym n) ∙ b in
      record { place = i; state = s; exit = exit; result = r; runs = subst (λ z. RunsTo j steps (comes_to i s exit r z)) f runs; is_end = h }
  behind steps i k (Some f) e runs h (st, rest, b, p, q) =
      let n : k ≡ suc i = omega (arith, e) in
      let g : drop (suc i) steps ≡ st ∷ rest = ap (λ m. drop m steps) (sym n) ∙ b in
      inr (inr (i, s, exit, r, st, rest, subst (λ z. RunsTo j steps (comes_to i s exit r z)) g runs, h, p ∙ n, q))
