use Rattle.std.proofs.Common.{ap₂, ◌∙◌}
use Rattle.px_terms.specs.declared.conjuncts.Conj.TheVariants.{SamePlace}
use Rattle.px_explore.proofs.SaidLemmas.{some_weaker}
use Rattle.px_explore.proofs.known.place_by.Goals as goal

pub returns-in-SamePlace : goal.returns-in-SamePlace
returns-in-SamePlace c = some_weaker _ _ c.other_place.result (λ y h. c.in-SamePlace.is ∙ ap₂ (λ a b. SamePlace a b) h.0 h.1) c.other_place.ensures
