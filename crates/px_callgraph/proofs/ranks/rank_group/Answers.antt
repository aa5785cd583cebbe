use Rattle.std.proofs.Common.{◌≡◌, ◌<◌, ℕ, List, get_or, length, refl, sym, ◌∙◌, arith, length-set}
use Rattle.px_callgraph.specs.Working.{IsRanked}
use Rattle.px_callgraph.proofs.Ranking.{more_ranked, others_ranked, stay_low, contained_ranked}
use Rattle.px_callgraph.proofs.ranks.rank_group.Goals as goal

pub loop-node-preserved : goal.loop-node-preserved
loop-node-preserved c =
    let numbers : List ℕ = c.args.numbers.now in
    let graph : List (List ℕ) = c.args.graph.now in
    let nodes : List ℕ = c.args.nodes.now in
    let i : ℕ = c.loop-node.node-index in
    let node : ℕ = get_or nodes i 0 in
    let ranks : List ℕ = c.loop-node.ranks in
    let n : ℕ = c.rank_above.result in
    let h = c.loop-node.invariant in
    let here : get_or numbers node 0 ≡ c.args.number = c.requires.here i 0 c.loop-node-test.true in
    let inside : node < length ranks = (let l = c.requires.inside i 0 c.loop-node-test.true in let s = h.size in let r = c.requires.ranked in omega arith) in
    record {
      size = length-set ranks node n ∙ h.size;
      low = stay_low numbers c.args.kept graph c.requires.falls ranks node n inside c.rank_above.ensures.above c.rank_above.ensures.low h.low;
      before = λ x l r. others_ranked numbers c.args.kept graph c.requires.falls ranks node n inside c.rank_above.ensures.above x (omega arith) (h.before x l r);
      here = more_ranked numbers c.args.kept graph c.requires.falls ranks node n inside c.rank_above.ensures.above nodes i refl
          (λ k l. c.requires.here k 0 (let t = c.loop-node-test.true in omega arith) ∙ sym here) h.here;
    }

pub returns-clause-here : goal.returns-clause-here
returns-clause-here c = λ x.
    contained_ranked (IsRanked c.args.graph.now c.args.numbers.now c.args.kept c.loop-node.ranks) c.args.nodes.now
    (λ k l. c.loop-node.invariant.here k (let t = c.loop-node-test.false in omega arith)) x
