use Rattle.std.proofs.Common.{◌≡◌, ℕ, ◌*◌, ◌<◌, false}
use Rattle.px_parity.specs.Bits.{bit_of}
use Rattle.px_parity.proofs.row.Row.first_variable.Given as goal

abbrev pub invariant-loop-at : goal.invariant-loop-at
invariant-loop-at l = (k : ℕ) → 0 < k → k < 64 * l.at → bit_of l.self k ≡ false
