-- What the false literals of a clause leave.
use Rattle.std.proofs.Common.{◌≡◌, ◌≢◌, ℕ, List, [], ◌∷◌, ◌++◌, sym, ◌∙◌, subst, take, drop, inl, inr}
use Rattle.std.specs.List.{Contains}
use Rattle.std.proofs.lemmas.List.{take-append-drop}
use Rattle.std.proofs.lemmas.List.Elements.{Contains-append_left, Contains-push, Contains-push_cases}
use Rattle.px_cnf.specs.Clauses.{negated}
use Rattle.px_cnf.specs.declared.literal.Literal.{Literal}
use Rattle.px_sat.specs.declared.step.Step.{Step}
use Rattle.px_sat.specs.declared.propagating.Left.{Left}
use Rattle.px_sat.specs.declared.propagating.Left.TheVariants.{Nothing, One, More}
use Rattle.px_sat.specs.Steps.{IsTrue}
use Rattle.px_sat.specs.Searches.{IsLeft}

module _ (steps : List Step) (clause : List Literal) (l : Literal) where
  -- a false literal changes nothing
  pub left_false : (left : Left) → IsLeft steps clause left → IsTrue steps (negated l) → IsLeft steps (clause ++ l ∷ []) left
  left_false Nothing h f = λ m n. elim (Contains-push_cases clause l m n) [ inl a ↦ h m a | inr e ↦ subst (λ k. IsTrue steps (negated k)) e f ]
  left_false (One k) h f = (Contains-append_left clause (l ∷ []) k h.0, h.1, λ m n d. elim (Contains-push_cases clause l m n) [ inl a ↦ h.2 m a d | inr e ↦ subst (λ k. IsTrue steps (negated k)) e f ])
  left_false More (a, b, h, k, d, f, g) _ = (a, b, Contains-append_left clause (l ∷ []) a h, Contains-append_left clause (l ∷ []) b k, d, f, g)

  pub left_first : IsLeft steps clause Nothing → (IsTrue steps (negated l) → ⊥) → IsLeft steps (clause ++ l ∷ []) (One l)
  left_first h f = (Contains-push clause l, f, λ m n d. elim (Contains-push_cases clause l m n) [ inl a ↦ h m a | inr e ↦ absurd (d (sym e)) ])

  pub left_again : (other : Literal) → l ≡ other → IsLeft steps clause (One other) → IsLeft steps (clause ++ l ∷ []) (One other)
  left_again other e h = (Contains-append_left clause (l ∷ []) other h.0, h.1, λ m n d. elim (Contains-push_cases clause l m n) [ inl a ↦ h.2 m a d | inr f ↦ absurd (d (sym f ∙ e)) ])

  pub left_second : (other : Literal) → l ≢ other → (IsTrue steps (negated l) → ⊥) → IsLeft steps clause (One other) → IsLeft steps (clause ++ l ∷ []) More
  left_second other d f h = (l, other, Contains-push clause l, Contains-append_left clause (l ∷ []) other h.0, d, f, h.1)

  pub left_more : IsLeft steps clause More → IsLeft steps (clause ++ l ∷ []) More
  left_more (a, b, h, k, d, f, g) = (a, b, Contains-append_left clause (l ∷ []) a h, Contains-append_left clause (l ∷ []) b k, d, f, g)

-- two of the first literals are two of all
pub more_of_all : (steps : List Step) (clause : List Literal) (i : ℕ) → IsLeft steps (take i clause) More → IsLeft steps clause More
more_of_all steps clause i (a, b, h, k, d, f, g) = (a, b, within a h, within b k, d, f, g)
  where
    within : (x : Literal) → Contains (take i clause) x → Contains clause x
    within x m = subst (λ (c : List Literal). Contains c x) (take-append-drop i clause) (Contains-append_left (take i clause) (drop i clause) x m)
