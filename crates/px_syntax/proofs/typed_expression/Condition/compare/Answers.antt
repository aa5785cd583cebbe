use Rattle.px_syntax.proofs.TypedChains.{compare-is}
use Rattle.px_syntax.proofs.typed_expression.Condition.compare.Goals as goal

pub returns : goal.returns
returns c = compare-is c.in_ok-first.first c.in_ok-first.before c.args.relation c.in_ok-new.field-0 c.args.site _ _ c.in_ok-first.ensures c.in_ok-new.ensures.ok
