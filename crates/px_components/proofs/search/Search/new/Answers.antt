use Rattle.px_components.proofs.Ending.{search_begun}
use Rattle.px_components.proofs.search.Search.new.Goals as goal

pub returns-clause-search : goal.returns-clause-search
returns-clause-search c =
    rw (c.in_ok-vec.ensures.items_if_clones_equal, c.in_ok-vec-2.ensures.items_if_clones_equal, c.new.ensures.items, c.new-2.ensures.items, c.new-3.ensures.items)
    (search_begun c.args.graph.now c.nodes-nodes.result c.nodes-nodes.ensures.value c.nodes-nodes.ensures.few)
