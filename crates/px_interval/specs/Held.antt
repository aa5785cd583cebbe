-- What a domain holds.
use Rattle.std.specs.Prelude.{◌≡◌, ℕ, zero, suc, List, [], ◌∷◌, length}
use Rattle.px_terms.specs.Rules.{RulesOut}
use Rattle.px_terms.specs.declared.conjuncts.Conj.{Conj}
use Rattle.px_interval.specs.declared.interval.Interval.{Interval}
use Rattle.px_interval.specs.declared.kept.Kept.{Kept}
use Rattle.px_interval.specs.Kept.{kept_of}

-- of the conjuncts, the last one first, the last n are ruled out with those before them; the others aren't: they are `count`, and these are their bounds
abbrev pub HoldsBeyond : ℕ → ℕ → List Kept → List Conj → Type 0
HoldsBeyond zero count kept cs = (count ≡ length cs) × (kept ≡ kept_of cs) × (¬ RulesOut 1 cs)
HoldsBeyond (suc n) count kept [] = ⊥
HoldsBeyond (suc n) count kept (c ∷ cs) = RulesOut 1 (c ∷ cs) × HoldsBeyond n count kept cs

-- it holds these conjuncts, the last one first
abbrev pub HoldsConjuncts : Interval → List Conj → Type 0
HoldsConjuncts s cs = HoldsBeyond s.beyond s.count s.kept cs
