use Rattle.std.proofs.Common.{subst, sym, arith}
use Rattle.px_components.specs.Graphs.{IsGraph}
use Rattle.px_components.proofs.Edges.{no_edge}
use Rattle.px_components.proofs.graph.Graph.new.Goals as goal

pub invariant_of-result : goal.invariant_of-result
invariant_of-result c = (
  subst IsGraph (sym c.loop-node.invariant.rows) (λ x y e. absurd (no_edge c.loop-node._node x y e)),
  omega arith,
)
