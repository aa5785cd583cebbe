use Rattle.px_real_expressions.proofs.ExpressionExact as Exact
use Rattle.px_real_expressions.proofs.laws.one_expression.Goals as goal

pub returns : goal.returns
returns c = Exact.one_expression
