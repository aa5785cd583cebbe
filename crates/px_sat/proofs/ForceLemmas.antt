-- Steps that clauses force, and clauses that force nothing more.
use Rattle.std.proofs.Common.{◌≡◌, ◌≢◌, ℕ, List, [], ◌∷◌, ◌++◌, Some, refl, sym, ap, ◌∙◌, subst, length, take, drop, inl, inr, arith}
use Rattle.std.specs.List.{Contains, slice_get}
use Rattle.std.proofs.lemmas.List.{take-append-drop, map-append}
use Rattle.std.proofs.lemmas.List.Elements.{Contains-append_left, Contains-push}
use Rattle.px_cnf.specs.Clauses.{negated}
use Rattle.px_cnf.specs.declared.literal.Literal.{Literal}
use Rattle.px_sat.specs.declared.step.Step.{Step}
use Rattle.px_sat.specs.declared.propagating.Left.TheVariants.{Nothing, One, More}
use Rattle.px_sat.specs.Steps.{literals, IsTrue, IsNew, IsFalseAt, ForcesWithin, forced}
use Rattle.px_sat.specs.Searches.{Extends, same, more, IsLeft}
use Rattle.px_sat.proofs.LiteralLemmas.{same_or_not, sides}

pub true_left : (steps us : List Step) (l : Literal) → IsTrue steps l → IsTrue (steps ++ us) l
true_left steps us l t = subst (λ (ls : List Literal). Contains ls l) (sym (map-append (λ (s : Step). s.literal) steps us)) (Contains-append_left (literals steps) (literals us) l t)

pub true_last : (steps : List Step) (s : Step) → IsTrue (steps ++ s ∷ []) s.literal
true_last steps s = subst (λ (ls : List Literal). Contains ls s.literal) (sym (map-append (λ (s : Step). s.literal) steps (s ∷ []))) (Contains-push (literals steps) s.literal)

pub true_of_first : (steps : List Step) (n : ℕ) (l : Literal) → IsTrue (take n steps) l → IsTrue steps l
true_of_first steps n l t = subst (λ (ss : List Step). IsTrue ss l) (take-append-drop n steps) (true_left (take n steps) (drop n steps) l t)

pub extends_true : {clauses : List (List Literal)} {old new : List Step} → Extends clauses old new → (l : Literal) → IsTrue old l → IsTrue new l
extends_true (same e) l t = subst (λ (ss : List Step). IsTrue ss l) (sym e) t
extends_true (more before k at h _ _ e) l t = subst (λ (ss : List Step). IsTrue ss l) (sym e) (true_left before (forced k at ∷ []) l (extends_true h l t))

pub extends_both : {clauses : List (List Literal)} {a b c : List Step} → Extends clauses a b → Extends clauses b c → Extends clauses a c
extends_both {clauses} {a} {b} {c} h (same e) = subst (λ (ss : List Step). Extends clauses a ss) (sym e) h
extends_both h (more before k at g n r e) = more before k at (extends_both h g) n r e

-- what is forced where less is known, and among more
pub forces_more : (clause : List Literal) (before after first all : List Step) → ((l : Literal) → IsTrue first l → IsTrue before l) → ((l : Literal) → IsTrue after l → IsTrue all l)
    → ForcesWithin clause before after → ForcesWithin clause first all
forces_more clause before after first all f g h l m others = g l (h l m (λ k n d. f (negated k) (others k n d)))

-- ---- one look at a clause

module _ (clauses : List (List Literal)) (at : ℕ) (clause : List Literal) (steps : List Step) (stands : slice_get clauses at ≡ Some clause) where
  pub look_false : IsLeft steps clause Nothing → IsFalseAt clauses steps at
  look_false h = record { clause = clause; stands = stands; is_false = h }

  -- the one that is left becomes true
  pub look_forces : (l : Literal) → IsLeft steps clause (One l) → IsNew steps l → Extends clauses steps (steps ++ forced l at ∷ [])
  look_forces l h new = more steps l at (same refl) new (record { clause = clause; stands = stands; there = h.0; others = h.2 }) refl

  pub left_new : (l : Literal) → IsLeft steps clause (One l) → (IsTrue steps l → ⊥) → IsNew steps l
  left_new l h untrue m t e = elim (sides m l e) [
    | inl f ↦ untrue (subst (IsTrue steps) f t)
    | inr f ↦ h.1 (subst (IsTrue steps) f t)
  ]

  -- where it is true afterwards, the clause forces nothing more
  pub look_within : (l : Literal) (after : List Step) → IsLeft steps clause (One l) → IsTrue after l → ForcesWithin clause steps after
  look_within l after h t k m others = elim (same_or_not k l) [
    | inl e ↦ subst (IsTrue after) (sym e) t
    | inr d ↦ absurd (h.1 (others l h.0 (λ e. d (sym e))))
  ]

  pub look_more : IsLeft steps clause More → ForcesWithin clause steps steps
  look_more (a, b, h, k, d, f, g) l m others = elim (same_or_not a l) [
    | inl e ↦ absurd (g (others b k (λ q. d (e ∙ sym q))))
    | inr q ↦ absurd (f (others a h q))
  ]

pub left_filled : (steps : List Step) (clause : List Literal) (l : Literal) → Contains clause l → clause ≢ []
left_filled steps clause l (i, h, _) e = let n = ap length e in let z : length {A = Literal} [] ≡ 0 = refl in omega arith
