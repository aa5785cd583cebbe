use Rattle.std.proofs.Common.{rules}
use Rattle.px_syntax.proofs.TypedChains.{either-links}
use Rattle.px_syntax.proofs.typed_expression.Condition.into_ors.Goals as goal

pub returns-in_ok-push-in-Or : goal.returns-in_ok-push-in-Or
returns-in_ok-push-in-Or c = search (rules, either-links)
