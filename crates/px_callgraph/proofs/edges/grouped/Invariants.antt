use Rattle.std.proofs.Common.{◌≡◌, ◌↔◌, ◌<◌, ℕ, max, length, get_or}
use Rattle.px_components.specs.Graphs.{IsEdge}
use Rattle.px_callgraph.proofs.edges.grouped.Given as goal

abbrev pub invariant-loop-node : goal.invariant-loop-node
invariant-loop-node l = record {
  size : length l.groups ≡ max l.count (length l.numbers);
  edges : (n x : ℕ) → IsEdge l.groups n x ↔ ((x < l.node) × (get_or l.numbers x 0 ≡ n));
}
