use Rattle.std.proofs.Common.{◌≡◌, ℕ, ◌<◌, ◌≤◌, length, get_or}
use Rattle.std.specs.Int.RustNames.{bit_xor}
use Rattle.px_parity.proofs.row.Row.add.Given as goal

abbrev pub invariant-loop-i : goal.invariant-loop-i
invariant-loop-i l = record {
  size : length l.self-inside.words.items ≡ length l.initial.self-inside.words.items;
  enough : length l.other-inside.words.items ≤ length l.self-inside.words.items;
  done : (k : ℕ) → k < l.i → get_or l.self-inside.words.items k 0 ≡ bit_xor (get_or l.initial.self-inside.words.items k 0) (get_or l.other-inside.words.items k 0);
  left : (k : ℕ) → l.i ≤ k → get_or l.self-inside.words.items k 0 ≡ get_or l.initial.self-inside.words.items k 0;
}
