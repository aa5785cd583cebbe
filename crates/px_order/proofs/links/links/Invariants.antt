use Rattle.std.proofs.Common.{◌≡◌, ◌↔◌, ℕ, length, take}
use Rattle.px_components.specs.Graphs.{IsEdge}
use Rattle.px_order.specs.Comparisons.{IsCompared}
use Rattle.px_order.proofs.links.links.Given as goal

abbrev pub invariant-loop-comparison : goal.invariant-loop-comparison
invariant-loop-comparison l = record {
  size : length l.graph ≡ l.variables;
  edges : (x y : ℕ) → IsEdge l.graph x y ↔ IsCompared (take l.comparison-index l.comparisons) x y;
}
