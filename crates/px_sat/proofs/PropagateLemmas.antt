-- One step more was looked at.
use Rattle.std.proofs.Common.{◌≡◌, ◌≢◌, ℕ, zero, suc, ◌+◌, ◌<◌, ◌≤◌, List, [], ◌∷◌, ◌++◌, Some, sym, ap, ◌∙◌, subst, length, take, ◌⊎◌, inl, inr, arith}
use Rattle.std.specs.List.{Contains, slice_get}
use Rattle.std.proofs.lemmas.List.{take_more, take-append-le, length-append, map-append}
use Rattle.std.proofs.lemmas.List.Elements.{Contains-push_cases}
use Rattle.std.proofs.lemmas.Option.{get_or_from_slice_get}
use Rattle.px_cnf.specs.Clauses.{negated}
use Rattle.px_cnf.specs.declared.literal.Literal.{Literal}
use Rattle.px_sat.specs.declared.step.Step.{Step}
use Rattle.px_sat.specs.Steps.{literals, IsTrue, ForcesWithin, IsClosedTo, forced}
use Rattle.px_sat.specs.Searches.{Extends, same, more}
use Rattle.px_sat.proofs.LiteralLemmas.{same_or_not, negated_twice}
use Rattle.px_sat.proofs.ForceLemmas.{true_of_first, extends_true}

pub contains_or_not : (c : List Literal) (x : Literal) → Contains c x ⊎ (Contains c x → ⊥)
contains_or_not [] x = inr (λ (k, h, e). absurd (omega arith))
contains_or_not (y ∷ ys) x = elim (same_or_not y x) [
  | inl e ↦ inl (0, omega arith, e)
  | inr d ↦ (elim (contains_or_not ys x) [
    | inl (k, h, e) ↦ inl (suc k, omega arith, e)
    | inr h ↦ inr (later h d)
  ])
]
  where
    later : (Contains ys x → ⊥) → y ≢ x → Contains (y ∷ ys) x → ⊥
    later h d (zero, l, e) = d e
    later h d (suc k, l, e) = h (k, omega arith, e)

pub extends_longer : {clauses : List (List Literal)} {old new : List Step} → Extends clauses old new → length old ≤ length new
extends_longer (same e) = let f = ap length e in omega arith
extends_longer (more before l at h _ _ e) = let f = ap length e ∙ length-append before (forced l at ∷ []) in let g = extends_longer h in omega arith

pub extends_first : {clauses : List (List Literal)} {old new : List Step} (n : ℕ) → Extends clauses old new → n ≤ length old → take n new ≡ take n old
extends_first n (same e) h = ap (take n) e
extends_first n (more before l at g _ _ e) h = ap (take n) e ∙ take-append-le n before (forced l at ∷ []) (let k = extends_longer g in omega arith) ∙ extends_first n g h

-- what is true by one step more
true_next : (steps : List Step) (p : ℕ) (s : Step) (l : Literal) → p < length steps → slice_get steps p ≡ Some s → IsTrue (take (p + 1) steps) l → IsTrue (take p steps) l ⊎ (s.literal ≡ l)
true_next steps p s l h g t =
    let e : take (p + 1) steps ≡ take p steps ++ s ∷ [] = take_more steps p s h ∙ ap (λ (x : Step). take p steps ++ x ∷ []) (get_or_from_slice_get steps p s s g) in
    Contains-push_cases (literals (take p steps)) s.literal l
    (subst (λ (ls : List Literal). Contains ls l) (ap literals e ∙ map-append (λ (x : Step). x.literal) (take p steps) (s ∷ [])) t)

pub closed_next : (clauses : List (List Literal)) (old new : List Step) (p : ℕ) (s : Step) → p < length old → slice_get old p ≡ Some s → Extends clauses old new → IsClosedTo clauses (take p old) old
    → ((clause : List Literal) → Contains clauses clause → Contains clause (negated s.literal) → ForcesWithin clause old new) → IsClosedTo clauses (take (p + 1) new) new
closed_next clauses old new p s h g x closed spread clause c l m others =
    let same_first : take (p + 1) new ≡ take (p + 1) old = extends_first (p + 1) x (omega arith) in
    elim (contains_or_not clause (negated s.literal)) [
      | inl n ↦ spread clause c n l m (λ k a d. true_of_first old (p + 1) (negated k) (subst (λ (ss : List Step). IsTrue ss (negated k)) same_first (others k a d)))
      | inr n ↦ extends_true x l (closed clause c l m (λ k a d. elim (true_next old p s (negated k) h g (subst (λ (ss : List Step). IsTrue ss (negated k)) same_first (others k a d))) [
        | inl t ↦ t
        | inr e ↦ absurd (n (subst (Contains clause) (sym (negated_twice k) ∙ ap negated (sym e)) a))
      ]))
    ]
