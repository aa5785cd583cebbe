use Rattle.px_syntax.proofs.expression.Expression.binary.Goals as goal
use Rattle.px_syntax.proofs.ExpressionChains.{binary-is}

-- src/expression.rt:118:5
pub returns : goal.returns
returns c = binary-is c.in_ok-first.first c.in_ok-first.before c.args.operator c.args.site c.in_ok-new.field-0 _ _ c.in_ok-first.ensures c.in_ok-new.ensures.ok
