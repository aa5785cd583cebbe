-- Of steps and an entry one thing is true.
use Rattle.std.proofs.Common.{◌≡◌, ◌⊎◌, inl, inr, ℕ, suc, List, [], ◌∷◌, refl, sym, ◌∙◌, subst}
use Rattle.px_entry.specs.declared.derivations.Rule.{Rule}
use Rattle.px_entry.specs.declared.derivations.Rule.TheVariants as rule
use Rattle.px_entry.specs.declared.derivations.Step.{Step}
use Rattle.px_entry.specs.declared.entries.Entry.{Entry}
use Rattle.px_callgraph.specs.JobTree.{JobTree}
use Rattle.px_callgraph.specs.Derivations.{Course, fails_at, comes_to, unsaid, RunsTo, IsEndOf, FailsFirst}
use Rattle.px_check.specs.Laws.{OneOutcome}
use Rattle.px_check.proofs.MoreActs.{IsSaid, one_course}

-- after an `End`: another entry, or a step more
abbrev FailsAfter : ℕ → Type 0 → List Step → ℕ → Rule → Type 0
FailsAfter i IsEnd [] k q = (¬ IsEnd) × (k ≡ i) × (q ≡ rule.End)
FailsAfter i IsEnd (st ∷ rest) k q = ((¬ IsEnd) × (k ≡ i) × (q ≡ rule.End)) ⊎ (IsEnd × (k ≡ suc i) × (q ≡ st.rule))

-- where a course fails first
abbrev FailsBy : JobTree → Entry → Course → ℕ → Rule → Type 0
FailsBy j x (fails_at i r) k q = (k ≡ i) × (q ≡ r)
FailsBy j x (comes_to i s exit result rest) k q = FailsAfter i (IsEndOf j s exit result x) rest k q
FailsBy j x unsaid k q = ⊥

other_entry : (i : ℕ) (E : Type 0) (rest : List Step) (q : Rule) → (¬ E) → q ≡ rule.End → FailsAfter i E rest i q
other_entry i E [] q h e = (h, refl, e)
other_entry i E (st ∷ rest) q h e = inl (h, refl, e)

fails_by : (j : JobTree) (x : Entry) (steps : List Step) (i : ℕ) (r : Rule) → FailsFirst j x steps i r → (c : Course) × RunsTo j steps c × IsSaid c × FailsBy j x c i r
fails_by j x steps i r (inl runs) = (fails_at i r, runs, tt, (refl, refl))
fails_by j x steps i r (inr (inl (s, exit, result, rest, runs, h, e))) = (comes_to i s exit result rest, runs, tt, other_entry i (IsEndOf j s exit result x) rest r h e)
fails_by j x steps i r (inr (inr (n, s, exit, result, st, rest, runs, h, e, f))) = (comes_to n s exit result (st ∷ rest), runs, tt, inr (h, e, f))

by_one : (j : JobTree) (x : Entry) (c : Course) (i k : ℕ) (r q : Rule) → FailsBy j x c i r → FailsBy j x c k q → (i ≡ k) × (r ≡ q)
by_one j x (fails_at n p) i k r q h l = (h.0 ∙ sym l.0, h.1 ∙ sym l.1)
by_one j x (comes_to n s exit result []) i k r q h l = (h.1 ∙ sym l.1, h.2 ∙ sym l.2)
by_one j x (comes_to n s exit result (st ∷ rest)) i k r q (inl h) (inl l) = (h.1 ∙ sym l.1, h.2 ∙ sym l.2)
by_one j x (comes_to n s exit result (st ∷ rest)) i k r q (inl h) (inr l) = absurd (h.0 l.0)
by_one j x (comes_to n s exit result (st ∷ rest)) i k r q (inr h) (inl l) = absurd (l.0 h.0)
by_one j x (comes_to n s exit result (st ∷ rest)) i k r q (inr h) (inr l) = (h.1 ∙ sym l.1, h.2 ∙ sym l.2)
by_one j x unsaid i k r q h l = absurd h

pub one_outcome : OneOutcome
one_outcome = record {
  apart = λ j x steps i r d f.
      let g = fails_by j x steps i r f in
      let e = one_course j steps (comes_to d.place d.state d.exit d.result []) g.0 tt g.2 d.runs g.1 in
      (subst (λ c. FailsBy j x c i r) (sym e) g.3).0 d.is_end;
  once = λ j x steps i k r q f g.
      let a = fails_by j x steps i r f in
      let b = fails_by j x steps k q g in
      let e = one_course j steps a.0 b.0 a.2 b.2 a.1 b.1 in
      by_one j x b.0 i k r q (subst (λ c. FailsBy j x c i r) e a.3) b.3;
}
