use Rattle.std.proofs.Common.{ℕ, List, subst, sym, ◌++◌, ◌∷◌, [], take, get_or, arith}
use Rattle.std.proofs.lemmas.List.{take_more}
use Rattle.px_callgraph.specs.Working.{Gains}
use Rattle.px_callgraph.proofs.Gaining.{gains_more}
use Rattle.px_callgraph.proofs.edges.add_edges.Goals as goal

pub loop-target-preserved : goal.loop-target-preserved
loop-target-preserved c =
    let i : ℕ = c.loop-target.target-index in
    let ys : List ℕ = c.args.targets.now in
    let x : ℕ = c.args.from in
    let y : ℕ = get_or ys i 0 in
    let mid : List (List ℕ) = c.loop-target.graph in
    let h = c.loop-target.invariant in
    subst (λ (zs : List ℕ). Gains c.args.graph.now x zs c.add.new.self) (sym (take_more ys i 0 c.loop-target-test.true))
    (subst (Gains c.args.graph.now x (take i ys ++ y ∷ [])) (sym c.in_ok-add.ensures)
    (gains_more c.args.graph.now mid x (take i ys) y h (let s = h.size in let r = c.requires.from in omega arith)))
