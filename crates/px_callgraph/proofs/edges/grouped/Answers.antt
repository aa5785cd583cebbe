use Rattle.std.proofs.Common.{ℕ, List, ◌∙◌, ap, length, get_or, ◌++◌, ◌∷◌, [], arith, length-set}
use Rattle.px_callgraph.proofs.Calling.{grouped_more}
use Rattle.px_callgraph.proofs.edges.grouped.Goals as goal

pub loop-node-preserved : goal.loop-node-preserved
loop-node-preserved c =
    let n : ℕ = get_or c.args.numbers.now c.loop-node.node 0 in
    let mid : List (List ℕ) = c.loop-node.groups in
    let s = c.loop-node.invariant.size in
    record {
      size = ap length c.in_ok-add.ensures ∙ length-set mid n (get_or mid n [] ++ c.loop-node.node ∷ []) ∙ s;
      edges = grouped_more c.args.numbers.now mid c.add.new.self c.loop-node.node
          (let l = c.requires.inside c.loop-node.node 0 c.loop-node-test.true in omega arith)
          c.in_ok-add.ensures c.loop-node.invariant.edges;
    }

pub returns-clause-edges : goal.returns-clause-edges
returns-clause-edges c = λ n x.
    let h = c.loop-node.invariant.edges n x in
    let f = c.loop-node-test.false in (
      λ e. let p = h.0 e in let l = p.0 in (omega (arith, c.loop-node.auto), p.1),
      λ p. let l = p.0 in h.1 (omega arith, p.1),
    )
