use Rattle.std.proofs.Common.{◌≡◌, ◌<◌, ◌+◌, ℕ, List, ◌++◌, get_or, length, take, drop, sym, subst, ap, ◌∙◌, arith}
use Rattle.std.proofs.lemmas.List.{length-replicate}
use Rattle.std.specs.Prelude.{Contains}
use Rattle.px_callgraph.specs.Working.{IsRanked, AreLow}
use Rattle.px_callgraph.proofs.Ranking.{number_below, numbers_below, group_inside, group_here, component_ranked, zeros_low, written_back}
use Rattle.px_callgraph.proofs.ranks.ranks_in.Goals as goal

pub grouped-requires-clause-inside : goal.grouped-requires-clause-inside
grouped-requires-clause-inside c = numbers_below c.args.graph.now c.args.numbers.now c.args.count c.requires

pub loop-number-init : goal.loop-number-init
loop-number-init c = record {
  size = ap length (c.in_ok-ranks.ensures.items_if_clones_equal (λ y e. e)) ∙ length-replicate {A = ℕ} c.nodes-nodes.result 0 ∙ c.nodes-nodes.ensures.value;
  low = subst (λ (rs : List ℕ). AreLow c.args.numbers.now rs) (sym (c.in_ok-ranks.ensures.items_if_clones_equal (λ y e. e))) (zeros_low c.args.numbers.now c.nodes-nodes.result);
  ranked = λ x l m. absurd (omega arith);
}

pub rank_group-requires-clause-inside : goal.rank_group-requires-clause-inside
rank_group-requires-clause-inside c =
    group_inside c.args.graph.now c.in_ok-groups.groups c.args.numbers.now c.loop-number.number c.targets-group.result.now c.requires.numbered c.targets-group.ensures.value c.in_ok-groups.ensures.edges

pub rank_group-requires-clause-here : goal.rank_group-requires-clause-here
rank_group-requires-clause-here c =
    group_here c.in_ok-groups.groups c.args.numbers.now c.loop-number.number c.targets-group.result.now c.targets-group.ensures.value c.in_ok-groups.ensures.edges

pub loop-number-preserved : goal.loop-number-preserved
loop-number-preserved c =
    let old : List ℕ = c.loop-number.ranks.items in
    let new : List ℕ = c.rank_group.new.ranks in
    let numbers : List ℕ = c.args.numbers.now in
    let graph : List (List ℕ) = c.args.graph.now in
    let number : ℕ = c.loop-number.number in
    let h = c.loop-number.invariant in
    let r = c.rank_group.ensures in
    let e : take c.loop-number.ranks.len (new ++ drop (length new) old) ≡ new =
    written_back old new c.loop-number.ranks.len (sym c.deref_mut.ensures.len ∙ sym r.size) (r.size ∙ ap length c.deref_mut.ensures.value) in
    let s = c.requires.numbered in
    record {
      size = ap length e ∙ r.size ∙ ap length c.deref_mut.ensures.value ∙ h.size;
      low = subst (λ (rs : List ℕ). AreLow numbers rs) (sym e) r.low;
      ranked = subst (λ (rs : List ℕ). (x : ℕ) → x < length graph → get_or numbers x 0 < number + 1 → IsRanked graph numbers c.args.kept rs x) (sym e)
          (λ x l m. component_ranked graph numbers c.args.kept number old new c.targets-group.result.now
          (λ y i k. subst (λ (ys : List ℕ). Contains ys y) (sym c.targets-group.ensures.value) ((c.in_ok-groups.ensures.edges number y).1 (i, k)))
          (λ y i k. h.ranked y (omega arith) k)
          (λ y k q. r.before y k (subst (λ (rs : List ℕ). IsRanked graph numbers c.args.kept rs y) (sym c.deref_mut.ensures.value) q))
          r.here x (omega arith) m);
    }

pub returns-clause-ranked : goal.returns-clause-ranked
returns-clause-ranked c = λ x l.
    let b = number_below c.args.graph.now c.args.numbers.now c.args.count x c.requires (let s = c.requires.numbered in omega arith) in
    c.loop-number.invariant.ranked x l (let f = c.loop-number-test.false in omega arith)
