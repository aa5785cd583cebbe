use Rattle.std.proofs.Common.{◌∙◌}
use Rattle.px_expressions.proofs.ConstantLemmas.{too_large_at}
use Rattle.px_expressions.proofs.constants.constant_value.Goals as goal

pub returns-then-value-gt-GREATEST : goal.returns-then-value-gt-GREATEST
returns-then-value-gt-GREATEST c =
    too_large_at c.loop-digit.value c.loop-digit.digit-index c.from.result c.args.text.now c.loop-digit-test.true (c.from.ensures ∙ c.saturating_sub.ensures) c.if-value-gt-GREATEST.true c.loop-digit.invariant.1
