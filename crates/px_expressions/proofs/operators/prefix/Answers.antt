use Rattle.px_expressions.proofs.FrontLemmas.{prefix_kept}
use Rattle.px_expressions.proofs.operators.prefix.Goals as goal

pub returns : goal.returns
returns c = rw (c.new.ensures.reads, c.new.ensures.same_source) (prefix_kept c.args.input _ _ _ c.in_ok-operator.ensures c.in_ok-symbol.ensures.some)
