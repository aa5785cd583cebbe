use Rattle.std.proofs.Common.{◌≡◌, ℕ, ◌<◌, ◌≤◌, false}
use Rattle.px_parity.specs.Bits.{bit_of}
use Rattle.px_parity.proofs.row.Row.first_among.Given as goal

abbrev pub invariant-loop-i : goal.invariant-loop-i
invariant-loop-i l = (k : ℕ) → 0 < k → l.from ≤ k → k < l.i → bit_of l.self k ≡ false
