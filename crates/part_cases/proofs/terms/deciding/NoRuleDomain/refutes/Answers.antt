use Rattle.px_terms.specs.Rules.{RulesOut}
use Rattle.part_cases.proofs.terms.deciding.NoRuleDomain.refutes.Goals as goal

pub returns-clause-answer : goal.returns-clause-answer
unfolding RulesOut
returns-clause-answer c = ((λ e. absurd (cc)), λ h. absurd h)
