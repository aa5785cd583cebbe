use Rattle.std.proofs.Common.{◌≡◌, ◌↔◌, ◌<◌, ℕ, length}
use Rattle.px_components.specs.Graphs.{IsEdge}
use Rattle.px_callgraph.specs.Working.{AllRiseTo}
use Rattle.px_callgraph.proofs.edges.reversed.Given as goal

-- the edges from the nodes before this one
abbrev pub invariant-loop-node : goal.invariant-loop-node
invariant-loop-node l = record {
  size : length l.turned ≡ length l.graph;
  edges : (x y : ℕ) → IsEdge l.turned x y ↔ ((y < l.node) × IsEdge l.graph y x);
  rising : AllRiseTo l.node l.turned;
}
