use Rattle.std.proofs.Common.{rules}
use Rattle.px_syntax.proofs.TypedChains.{compare-links}
use Rattle.px_syntax.proofs.typed_expression.Condition.into_comparisons.Goals as goal

pub returns-in_ok-push-in-Compare : goal.returns-in_ok-push-in-Compare
returns-in_ok-push-in-Compare c = search (rules, compare-links)
