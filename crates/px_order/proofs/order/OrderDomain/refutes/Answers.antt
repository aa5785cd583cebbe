use Rattle.std.proofs.Common.{◌≡◌, ◌↔◌, ℕ, List, length, sym, subst, ap, ◌∙◌, eqb-true}
use Rattle.std.specs.Prelude.{All}
use Rattle.px_components.specs.Graphs.{IsEdge}
use Rattle.px_order.specs.declared.comparisons.Comparison.{Comparison}
use Rattle.px_order.specs.Comparisons.{IsBelow, IsCompared}
use Rattle.px_order.proofs.Rule.{all_below, none_compared, decides}
use Rattle.px_order.proofs.order.OrderDomain.refutes.Goals as goal

pub returns-then-is_empty-clause-answer : goal.returns-then-is_empty-clause-answer
returns-then-is_empty-clause-answer c = (
  λ e. absurd cc,
  λ r. absurd (none_compared c.args.conjuncts.now c.in_ok-comparisons.comparisons.items c.in_ok-comparisons.ensures.same
      (sym c.in_ok-comparisons.comparisons.ok.0 ∙ eqb-true _ 0 (sym c.if-is_empty.ensures)) r),
)

pub links-requires : goal.links-requires
links-requires c =
    subst (All (IsBelow (length c.args.vars.now))) (sym c.deref.ensures.value) (c.in_ok-comparisons.ensures.below (length c.args.vars.now) (all_below c.args.vars.now c.args.conjuncts.now c.requires.sorted))

pub is_some_strict_within-requires : goal.is_some_strict_within-requires
is_some_strict_within-requires c =
    let e : length c.deref-3.result.now ≡ length c.args.vars.now = ap length c.deref-3.ensures.value ∙ c.in_ok-components.ensures.numbered ∙ c.in_ok-graph.ensures.size in
    subst (λ n. All (IsBelow n) c.deref-2.result.now) (sym e)
    (subst (All (IsBelow (length c.args.vars.now))) (sym c.deref-2.ensures.value) (c.in_ok-comparisons.ensures.below (length c.args.vars.now) (all_below c.args.vars.now c.args.conjuncts.now c.requires.sorted)))

pub returns-clause-answer : goal.returns-clause-answer
returns-clause-answer c =
    let cs : List Comparison = c.in_ok-comparisons.comparisons.items in
    decides c.args.conjuncts.now cs c.in_ok-comparisons.ensures.same c.in_ok-graph.graph c.in_ok-components.components.numbers.items c.in_ok-components.components.count
    (subst (λ ds. (x y : ℕ) → IsEdge c.in_ok-graph.graph x y ↔ IsCompared ds x y) c.deref.ensures.value c.in_ok-graph.ensures.edges)
    c.in_ok-components.ensures
    (subst (λ n. All (IsBelow n) cs) (sym c.in_ok-graph.ensures.size) (c.in_ok-comparisons.ensures.below (length c.args.vars.now) (all_below c.args.vars.now c.args.conjuncts.now c.requires.sorted)))
    c.is_some_strict_within.result
    (rw (c.deref-2.ensures.value, c.deref-3.ensures.value) at c.is_some_strict_within.ensures)
