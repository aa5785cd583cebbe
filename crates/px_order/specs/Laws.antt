-- What the rule of order rules out.
use Rattle.std.specs.Prelude.{List, All}
use Rattle.px_terms.specs.Valuations.{Valuation}
use Rattle.px_terms.specs.Conjuncts.{IsTrueUnder}
use Rattle.px_terms.specs.Rules.{OrderRulesOut}
use Rattle.px_terms.specs.declared.conjuncts.Conj.{Conj}

-- no valuation makes a list true that the rule rules out, whatever its values
pub record RuledOutHaveNoModel : Type 0 where
  pub none : (conjuncts : List Conj) → OrderRulesOut conjuncts → (v : Valuation) → ¬ All (IsTrueUnder v) conjuncts
