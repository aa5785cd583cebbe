use Rattle.std.proofs.Common.{◌≡◌, ◌<◌, drop}
use Rattle.px_expressions.specs.Reading.{decimal_from}
use Rattle.px_expressions.proofs.constants.constant_value.Given as goal

abbrev pub invariant-loop-digit : goal.invariant-loop-digit
invariant-loop-digit l = (l.value < 2147483648) × (decimal_from l.value (drop l.digit-index l.text) ≡ decimal_from 0 l.text)
