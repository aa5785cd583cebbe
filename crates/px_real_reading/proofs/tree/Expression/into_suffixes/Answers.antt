use Rattle.std.proofs.Common.{rules}
use Rattle.px_real_reading.proofs.TreeEquations.{suffixes-are-whole}
use Rattle.px_real_reading.proofs.tree.Expression.into_suffixes.Goals as goal

pub returns-in_ok-push-in-Postfix : goal.returns-in_ok-push-in-Postfix
returns-in_ok-push-in-Postfix c = λ all. search (rules, suffixes-are-whole)
