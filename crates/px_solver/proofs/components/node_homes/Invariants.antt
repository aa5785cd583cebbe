use Rattle.std.proofs.Common.{◌≡◌, ℕ, ◌<◌, length, get_or}
use Rattle.px_solver.specs.Tables.{home_of}
use Rattle.px_solver.proofs.components.node_homes.Given as goal

abbrev pub invariant-loop-v : goal.invariant-loop-v
invariant-loop-v l = record {
  so_far : length l.homes.items ≡ l.v;
  each : (v : ℕ) → v < l.v → get_or l.homes.items v 0 ≡ home_of l.table l.joined v;
}
