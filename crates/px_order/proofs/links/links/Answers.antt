use Rattle.std.proofs.Common.{◌↔◌, ◌+◌, ◌++◌, [], ◌∷◌, length, get_or, take, List, ℕ, false, subst, sym, ap, ◌∙◌, arith, length-set}
use Rattle.std.proofs.lemmas.List.{take_all}
use Rattle.px_components.specs.Graphs.{IsEdge}
use Rattle.px_order.specs.declared.comparisons.Comparison.{Comparison}
use Rattle.px_order.specs.Comparisons.{IsCompared, comparison_at}
use Rattle.px_order.proofs.Linking.{linked_more}
use Rattle.px_order.proofs.links.links.Goals as goal

pub loop-comparison-preserved : goal.loop-comparison-preserved
loop-comparison-preserved c =
    let i : ℕ = c.loop-comparison.comparison-index in
    let k : Comparison = comparison_at c.args.comparisons.now i in
    let g : List (List ℕ) = c.loop-comparison.graph in
    let b = c.requires i (record { first = 0; second = 0; strict = false }) c.loop-comparison-test.true in
    record {
      size = ap length c.in_ok-add.ensures ∙ length-set g k.first (get_or g k.first [] ++ k.second ∷ []) ∙ c.loop-comparison.invariant.size;
      edges = subst (λ (h : List (List ℕ)). (x y : ℕ) → IsEdge h x y ↔ IsCompared (take (i + 1) c.args.comparisons.now) x y) (sym c.in_ok-add.ensures)
          (linked_more c.args.comparisons.now i c.loop-comparison-test.true g (let s = c.loop-comparison.invariant.size in let f = b.0 in omega arith) c.loop-comparison.invariant.edges);
    }

pub returns-clause-edges : goal.returns-clause-edges
returns-clause-edges c =
    subst (λ cs. (x y : ℕ) → IsEdge c.loop-comparison.graph x y ↔ IsCompared cs x y) (take_all c.loop-comparison.comparison-index c.args.comparisons.now c.loop-comparison-test.false) c.loop-comparison.invariant.edges
