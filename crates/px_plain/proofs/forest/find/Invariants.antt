use Rattle.std.proofs.Common.{ℕ, ◌≤◌}
use Rattle.px_plain.specs.Forest.{Keeps, IsAbove, IsForest, SameSolutions, RootsStay}
use Rattle.px_plain.proofs.forest.find.Given as goal

abbrev pub invariant-loop-table : goal.invariant-loop-table
invariant-loop-table l = record {
  below : l.at ≤ l.v;
  forest : IsForest l.table;
  same : SameSolutions l.initial.table l.table;
  roots : RootsStay l.initial.table l.table;
  above : (val : ℕ → ℕ) → Keeps val l.initial.table → IsAbove val l.v l.at l.offset;
}

abbrev pub decreases-loop-table : goal.decreases-loop-table
decreases-loop-table l = l.at
