-- Searches that go on.
use Rattle.std.proofs.Common.{◌≡◌, ℕ, ◌+◌, ◌<◌, List, [], ◌∷◌, ◌++◌, refl, sym, subst, length, take, inl, inr, arith}
use Rattle.std.proofs.lemmas.Bool.{cases_lt}
use Rattle.std.proofs.Math.Seq.{take-append_seam}
use Rattle.px_cnf.specs.declared.literal.Literal.{Literal}
use Rattle.px_sat.specs.declared.step.Step.{Step}
use Rattle.px_sat.specs.Logs.{is_true, is_false}
use Rattle.px_sat.specs.Steps.{IsTrue, HasValue, NoneHas, AreSteps, takes, forces, IsClosed, IsClosedTo, taken}
use Rattle.px_sat.specs.Searches.{Extends, same, more, IsSearch}
use Rattle.px_sat.proofs.StepLemmas.{new_from_none}
use Rattle.px_sat.proofs.ForceLemmas.{true_left, true_last, extends_true, forces_more}

pub steps_extend : {clauses : List (List Literal)} {may : List Step → Literal → Type 0} {old new : List Step} → AreSteps clauses may old → Extends clauses old new → AreSteps clauses may new
steps_extend {clauses} {may} h (same e) = subst (λ (ss : List Step). AreSteps clauses may ss) (sym e) h
steps_extend h (more before l at g n r e) = forces before l at (steps_extend h g) n r e

pub value_extends : {clauses : List (List Literal)} {old new : List Step} → Extends clauses old new → (x : ℕ) → HasValue old x → HasValue new x
value_extends g x (inl t) = inl (extends_true g (is_true x) t)
value_extends g x (inr t) = inr (extends_true g (is_false x) t)

-- ---- a variable is decided

module _ (n : ℕ) (clauses : List (List Literal)) (steps : List Step) (x : ℕ) where
  pub decided_steps : IsSearch n clauses steps → IsClosed clauses steps → x < n → NoneHas steps x → ((y : ℕ) → y < x → HasValue steps y) → IsSearch n clauses (steps ++ taken (is_false x) ∷ [])
  decided_steps h closed inside none known =
      takes steps (is_false x) h (new_from_none steps (is_false x) none) (record { negative = refl; closed = closed; inside = inside; least = known }) refl

  pub decided_closed : IsClosed clauses steps → IsClosedTo clauses (take (length steps) (steps ++ taken (is_false x) ∷ [])) (steps ++ taken (is_false x) ∷ [])
  decided_closed closed clause c =
      rw (take-append_seam steps (taken (is_false x) ∷ []))
      (forces_more clause steps steps steps (steps ++ taken (is_false x) ∷ []) (λ l t. t) (true_left steps (taken (is_false x) ∷ [])) (closed clause c))

  pub decided_known : (new : List Step) → ((y : ℕ) → y < x → HasValue steps y) → Extends clauses (steps ++ taken (is_false x) ∷ []) new → (y : ℕ) → y < x + 1 → HasValue new y
  decided_known new known g y l = elim (cases_lt y x) [
    | inl a ↦ value_extends g y (more_left y (known y a))
    | inr a ↦ (let e : x ≡ y = omega arith in inr (subst (λ z. IsTrue new (is_false z)) e (extends_true g (is_false x) (true_last steps (taken (is_false x))))))
  ]
    where
      more_left : (y : ℕ) → HasValue steps y → HasValue (steps ++ taken (is_false x) ∷ []) y
      more_left y (inl t) = inl (true_left steps (taken (is_false x) ∷ []) (is_true y) t)
      more_left y (inr t) = inr (true_left steps (taken (is_false x) ∷ []) (is_false y) t)
