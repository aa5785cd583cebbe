use Rattle.std.proofs.Common.{◌≡◌, ◌≢◌, ℕ, ◌<◌, []}
use Rattle.px_components.specs.Searches.{state_of, node_at, IsSearch}
use Rattle.px_components.specs.declared.search.Node.TheVariants.{New}
use Rattle.px_components.proofs.components.Components.of.Given as goal

abbrev pub invariant-loop-node : goal.invariant-loop-node
invariant-loop-node l = record {
  search : IsSearch l.graph (state_of l.search);
  idle : l.search.groups.items ≡ [];
  known : (x : ℕ) → x < l.node → node_at l.search.nodes.items x ≢ New;
}
