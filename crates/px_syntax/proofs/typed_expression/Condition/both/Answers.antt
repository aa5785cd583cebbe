use Rattle.px_syntax.proofs.TypedChains.{both-is}
use Rattle.px_syntax.proofs.typed_expression.Condition.both.Goals as goal

pub returns : goal.returns
returns c = both-is c.in_ok-first.first c.in_ok-first.before c.in_ok-new.field-0 _ _ c.in_ok-first.ensures c.in_ok-new.ensures.ok
