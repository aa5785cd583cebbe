use Rattle.std.proofs.Common.{◌≡◌, ℕ, ◌<◌, length, get_or}
use Rattle.px_plain.specs.Forest.{parent_at}
use Rattle.px_plain.specs.Places.{number_under}
use Rattle.px_plain.proofs.places.number_all.Given as goal

abbrev pub invariant-loop-node : goal.invariant-loop-node
invariant-loop-node l = record {
  so_far : length l.numbers.items ≡ l.node-index;
  each : (v : ℕ) → v < l.node-index → get_or l.numbers.items v 0 ≡ number_under l.marks (parent_at l.table v);
}
