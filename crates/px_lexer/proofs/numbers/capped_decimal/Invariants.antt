use Rattle.std.proofs.Common.{◌≡◌, min, take}
use Rattle.px_lexer.specs.Spelling.{decimal}
use Rattle.px_lexer.proofs.numbers.capped_decimal.Given as goal

abbrev pub invariant-loop-digit : goal.invariant-loop-digit
invariant-loop-digit l = l.number ≡ min (decimal (take l.digit-index l.digits)) 2147483648
