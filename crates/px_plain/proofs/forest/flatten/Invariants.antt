use Rattle.std.proofs.Common.{◌≡◌, ℕ, ◌<◌}
use Rattle.px_plain.specs.Forest.{parent_at, IsForest, SameSolutions}
use Rattle.px_plain.proofs.forest.flatten.Given as goal

abbrev pub invariant-loop-v : goal.invariant-loop-v
invariant-loop-v l = record {
  forest : IsForest l.table;
  same : SameSolutions l.initial.table l.table;
  flat : (v : ℕ) → v < l.v → parent_at l.table (parent_at l.table v) ≡ parent_at l.table v;
}
