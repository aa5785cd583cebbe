use Rattle.std.proofs.Common.{rules}
use Rattle.px_syntax.proofs.TypedChains.{arithmetic-links}
use Rattle.px_syntax.proofs.typed_expression.TypedExpression.into_arithmetic.Goals as goal

pub returns-in_ok-push-in-Arithmetic : goal.returns-in_ok-push-in-Arithmetic
returns-in_ok-push-in-Arithmetic c = search (rules, arithmetic-links)
