use Rattle.std.proofs.Common.{◌≡◌, ℕ, ◌<◌, length}
use Rattle.px_plain.specs.Forest.{node_at, parent_at}
use Rattle.px_plain.proofs.forest.roots.Given as goal

abbrev pub invariant-loop-parent : goal.invariant-loop-parent
invariant-loop-parent l = record {
  so_far : length l.table.items ≡ l.parent;
  parents : (i : ℕ) → i < l.parent → parent_at l.table.items i ≡ i;
  offsets : (i : ℕ) → i < l.parent → (node_at l.table.items i).offset ≡ 0;
}
