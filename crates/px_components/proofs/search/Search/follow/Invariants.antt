use Rattle.px_components.specs.Searches.{state_of, IsSearch, KeepsKnown, work_left}
use Rattle.px_components.proofs.search.Search.follow.Given as goal

abbrev pub invariant-loop-group : goal.invariant-loop-group
invariant-loop-group l = record {
  search : IsSearch l.graph (state_of l.self);
  known : KeepsKnown l.initial.self.nodes.items l.self.nodes.items;
}

abbrev pub decreases-loop-group : goal.decreases-loop-group
decreases-loop-group l = work_left l.graph (state_of l.self)
