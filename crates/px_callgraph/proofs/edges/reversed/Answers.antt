use Rattle.std.proofs.Common.{ℕ, ◌+◌, List, subst, ◌∙◌, arith}
use Rattle.px_components.proofs.Edges.{edge_from}
use Rattle.px_callgraph.specs.Working.{GainsFrom}
use Rattle.px_callgraph.proofs.Calling.{turned_more}
use Rattle.px_callgraph.proofs.Rising.{all_rise_further}
use Rattle.px_callgraph.proofs.edges.reversed.Goals as goal

pub loop-node-preserved : goal.loop-node-preserved
loop-node-preserved c =
    let n : ℕ = c.loop-node.node in
    let h = c.in_ok-add_sources.ensures in
    record {
      size = h.gains.size ∙ c.loop-node.invariant.size;
      edges = turned_more c.args.graph.now c.loop-node.turned c.add_sources.new.graph n c.loop-node.invariant.edges
          (subst (λ (xs : List ℕ). GainsFrom c.loop-node.turned xs n c.add_sources.new.graph) c.targets.ensures.value h.gains);
      rising = all_rise_further n (n + 1) c.add_sources.new.graph (omega arith) h.rising;
    }

pub returns-clause-edges : goal.returns-clause-edges
returns-clause-edges c = λ x y.
    let h = c.loop-node.invariant.edges x y in
    let f = c.loop-node-test.false in
    let v = c.nodes-node-end.ensures.value in (
      λ e. (h.0 e).1,
      λ k. let l = edge_from c.args.graph.now y x k in h.1 (omega arith, k),
    )

pub returns-clause-rising : goal.returns-clause-rising
returns-clause-rising c = λ x. (c.loop-node.invariant.rising x).rising
