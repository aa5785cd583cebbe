use Rattle.std.proofs.Common.{◌≡◌, ℕ, ◌<◌, length}
use Rattle.px_order.specs.Searches.{mark_at, strength, IsWaiting}
use Rattle.px_order.proofs.search.clear.Given as goal

abbrev pub invariant-loop-i : goal.invariant-loop-i
invariant-loop-i l = record {
  size : length l.marks ≡ length l.fn.marks;
  waiting : (x : ℕ) → 0 < strength (mark_at l.marks x) → IsWaiting l.fn.reached.items l.i x;
}
