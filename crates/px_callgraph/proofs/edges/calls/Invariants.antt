use Rattle.std.proofs.Common.{◌≡◌, ◌↔◌, ◌<◌, ℕ, length}
use Rattle.px_components.specs.Graphs.{IsEdge}
use Rattle.px_callgraph.specs.Callees.{IsCallee}
use Rattle.px_callgraph.specs.CallGraphs.{bodies_in}
use Rattle.px_callgraph.proofs.edges.calls.Given as goal

-- the calls of the bodies before this one
abbrev pub invariant-loop-i : goal.invariant-loop-i
invariant-loop-i l = record {
  size : length l.graph ≡ l.nodes;
  edges : (x y : ℕ) → IsEdge l.graph x y ↔ ((x < l.i) × IsCallee (bodies_in l.bodies) x y);
}
