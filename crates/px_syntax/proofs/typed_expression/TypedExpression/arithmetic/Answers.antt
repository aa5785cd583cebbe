use Rattle.px_syntax.proofs.TypedChains.{arithmetic-is}
use Rattle.px_syntax.proofs.typed_expression.TypedExpression.arithmetic.Goals as goal

pub returns : goal.returns
returns c = arithmetic-is c.in_ok-first.first c.in_ok-first.before c.args.operator c.in_ok-new.field-0 _ _ c.in_ok-first.ensures c.in_ok-new.ensures.ok
