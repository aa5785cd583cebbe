use Rattle.std.proofs.Common.{rules}
use Rattle.px_real_reading.proofs.TreeEquations.{links-are-whole}
use Rattle.px_real_reading.proofs.tree.Expression.into_links.Goals as goal

pub returns-in_ok-push-in-Binary : goal.returns-in_ok-push-in-Binary
returns-in_ok-push-in-Binary c = λ all. search (rules, links-are-whole)
