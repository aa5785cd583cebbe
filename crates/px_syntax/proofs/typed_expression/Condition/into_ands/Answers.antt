use Rattle.std.proofs.Common.{rules}
use Rattle.px_syntax.proofs.TypedChains.{both-links}
use Rattle.px_syntax.proofs.typed_expression.Condition.into_ands.Goals as goal

pub returns-in_ok-push-in-And : goal.returns-in_ok-push-in-And
returns-in_ok-push-in-And c = search (rules, both-links)
