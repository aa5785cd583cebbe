use Rattle.std.proofs.Common.{rules}
use Rattle.px_syntax.proofs.expression.Expression.into_links.Goals as goal
use Rattle.px_syntax.proofs.ExpressionChains.{links-are-whole}

-- src/expression.rt:139:5
pub returns-in_ok-push-in-Binary : goal.returns-in_ok-push-in-Binary
returns-in_ok-push-in-Binary c = search (rules, links-are-whole)
