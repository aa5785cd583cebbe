-- What a domain holds.
use Rattle.std.specs.Prelude.{◌≡◌, ℕ, zero, suc, List, [], ◌∷◌, length, reverse}
use Rattle.px_terms.specs.Rules.{RulesOut}
use Rattle.px_terms.specs.declared.conjuncts.Conj.{Conj}
use Rattle.px_order.specs.declared.comparisons.Comparison.{Comparison}
use Rattle.px_order.specs.declared.kept.Start.{Start}
use Rattle.px_order.specs.declared.order.Order.{Order}
use Rattle.px_order.specs.Kept.{AreKept}

-- of the conjuncts, the last one first, the last n are ruled out with those before them; the others aren't: they are `count`, and the comparisons say what they say
abbrev pub HoldsBeyond : ℕ → ℕ → List Start → List Comparison → List Conj → Type 0
HoldsBeyond zero count starts ks cs = (count ≡ length cs) × AreKept starts ks cs × (¬ RulesOut 3 cs)
HoldsBeyond (suc n) count starts ks [] = ⊥
HoldsBeyond (suc n) count starts ks (c ∷ cs) = RulesOut 3 (c ∷ cs) × HoldsBeyond n count starts ks cs

-- it holds these conjuncts, the last one first
abbrev pub HoldsConjuncts : Order → List Conj → Type 0
HoldsConjuncts s cs = HoldsBeyond s.beyond s.count (reverse s.starts.items) s.kept cs
