-- What holds of a kept procedure where it holds of those that it calls and that aren't together with it holds of all:
-- different procedures of which each so calls the next are no more than are kept.
use Rattle.std.proofs.Common.{◌≡◌, ℕ, zero, suc, ◌+◌, ◌<◌, List, [], ◌∷◌, length, Option, sym, subst, arith}
use Rattle.std.proofs.lemmas.Map.Steps.{length-le_from_distinct_below}
use Rattle.px_core.specs.BodyTree.{BodyTree}
use Rattle.px_entry.proofs.Lists.{Each}
use Rattle.px_callgraph.specs.Callees.{IsCallee, Reaches, by_call, AreTogether}
use Rattle.px_symexec.proofs.OneLemmas.{AreApart, reaches_then, distinct_from, below_from}

module _ (bodies : ℕ → Option BodyTree) (kept : ℕ) where
  -- the procedures before f on the way to it
  abbrev LeadTo : ℕ → List ℕ → Type 0
  LeadTo f path = Each (λ p. (p < kept) × Reaches bodies p f) path

  lead_on : (f g : ℕ) (path : List ℕ) → IsCallee bodies f g → LeadTo f path → LeadTo g path
  lead_on f g [] c h = tt
  lead_on f g (p ∷ path) c h = ((h.0.0, reaches_then bodies p f g h.0.1 c), lead_on f g path c h.1)

  lead_below : (f : ℕ) (path : List ℕ) → LeadTo f path → Each (λ p. p < kept) path
  lead_below f [] h = tt
  lead_below f (p ∷ path) h = (h.0.0, lead_below f path h.1)

  -- a callee that isn't together with f isn't on the way to it
  lead_apart : (f g : ℕ) (path : List ℕ) → IsCallee bodies f g → ¬ AreTogether bodies f g → LeadTo f path → Each (λ p. ¬ (g ≡ p)) path
  lead_apart f g [] c n h = tt
  lead_apart f g (p ∷ path) c n h = ((λ e. n (by_call c, subst (λ z. Reaches bodies z f) (sym e) h.0.1)), lead_apart f g path c n h.1)

  not_itself : (f g : ℕ) → IsCallee bodies f g → ¬ AreTogether bodies f g → ¬ (g ≡ f)
  not_itself f g c n e = n (by_call c, subst (λ z. Reaches bodies z f) (sym e) (by_call (subst (IsCallee bodies f) e c)))

  module _ (Holds : ℕ → Type 0) (next : (f : ℕ) → f < kept → ((g : ℕ) → IsCallee bodies f g → g < kept → ¬ AreTogether bodies f g → Holds g) → Holds f) where
    -- n procedures may still come before f
    holds_at : (n f : ℕ) (path : List ℕ) → length path + n ≡ kept → f < kept → AreApart (f ∷ path) → LeadTo f path → Holds f
    holds_at zero f path e l d h = absurd too_many
      where
        too_many : ⊥
        too_many = let m = length-le_from_distinct_below (f ∷ path) kept (distinct_from (f ∷ path) d) (below_from kept (f ∷ path) (l, lead_below f path h)) in omega (arith, m, e)
    holds_at (suc n) f path e l d h =
        next f l
        (λ g c k m. holds_at n g (f ∷ path) (let q : suc (length path) + n ≡ kept = omega (arith, e) in q) k
        ((not_itself f g c m, lead_apart f g path c m h), d) ((l, by_call c), lead_on f g path c h))

    pub by_callees : (f : ℕ) → f < kept → Holds f
    by_callees f l = holds_at kept f [] (omega arith) l (tt, tt) tt
