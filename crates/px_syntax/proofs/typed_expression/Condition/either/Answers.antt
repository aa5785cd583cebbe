use Rattle.px_syntax.proofs.TypedChains.{either-is}
use Rattle.px_syntax.proofs.typed_expression.Condition.either.Goals as goal

pub returns : goal.returns
returns c = either-is c.in_ok-first.first c.in_ok-first.before c.in_ok-new.field-0 _ _ c.in_ok-first.ensures c.in_ok-new.ensures.ok
