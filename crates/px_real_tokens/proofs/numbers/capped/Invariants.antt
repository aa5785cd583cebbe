use Rattle.std.proofs.Common.{◌≡◌, min, take}
use Rattle.px_real_tokens.specs.Values.{written_in}
use Rattle.px_real_tokens.proofs.numbers.capped.Given as goal

abbrev pub invariant-loop-digit : goal.invariant-loop-digit
invariant-loop-digit l = l.number ≡ min (written_in l.base (take l.digit-index l.digits)) 2147483648
