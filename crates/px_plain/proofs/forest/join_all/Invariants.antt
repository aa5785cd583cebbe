use Rattle.std.proofs.Common.{ℕ, ◌<◌}
use Rattle.px_plain.specs.Forest.{Keeps, IsForest}
use Rattle.px_plain.specs.Differences.{difference_at, IfEqual, AllEqual}
use Rattle.px_plain.proofs.forest.join_all.Given as goal

abbrev pub invariant-loop-i : goal.invariant-loop-i
invariant-loop-i l = record {
  forest : IsForest l.table;
  joined : (val : ℕ → ℕ) → Keeps val l.table → (i : ℕ) → i < l.i → IfEqual val (difference_at l.differences i);
  old : (val : ℕ → ℕ) → Keeps val l.table → Keeps val l.initial.table;
  new : (val : ℕ → ℕ) → Keeps val l.initial.table → AllEqual val l.differences → Keeps val l.table;
}
