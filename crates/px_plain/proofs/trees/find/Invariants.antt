use Rattle.std.proofs.Common.{◌≡◌, ◌+◌, ◌-◌, ◌%◌, ◌^◌, ◌<◌, length}
use Rattle.px_plain.specs.Trees.{Flat, rank_at}
use Rattle.px_plain.proofs.trees.find.Given as goal

abbrev pub invariant-loop-at : goal.invariant-loop-at
invariant-loop-at l = record {
  inside : l.at < length l.table;
  root : (f : Flat l.table) → f.root l.at ≡ f.root l.node;
  above : (f : Flat l.table) → (f.above l.at + l.offset) % 2 ^ 32 ≡ f.above l.node;
}

abbrev pub decreases-loop-at : goal.decreases-loop-at
decreases-loop-at l = 2 ^ 32 - rank_at l.table l.at
