use Rattle.px_terms.specs.Rules.{RulesOut}
use Rattle.part_cases.proofs.terms.deciding.NoRuleDomain.refuted.Goals as goal

pub returns : goal.returns
unfolding RulesOut
returns c = λ cs h. (λ e. absurd (cc), λ r. absurd r)
