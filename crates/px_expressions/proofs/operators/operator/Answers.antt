use Rattle.px_expressions.proofs.FrontLemmas.{operator_kept}
use Rattle.px_expressions.proofs.operators.operator.Goals as goal

pub returns : goal.returns
returns c = rw (c.new.ensures.reads, c.new.ensures.same_source) (operator_kept c.args.level c.args.input _ _ _ c.in_ok-operator.ensures c.in_ok-symbol.ensures.some)
