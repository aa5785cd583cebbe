use Rattle.std.proofs.Common.{◌≡◌, ◌↔◌, ◌<◌, ℕ, List, true, false, get_or, length, subst, sym, arith}
use Rattle.px_callgraph.specs.CallGraphs.{bodies_in, IsGraphOf}
use Rattle.px_callgraph.specs.Working.{IsRanked, IsOnCycle, IsKnown}
use Rattle.px_callgraph.proofs.Calling.{caller_inside}
use Rattle.px_callgraph.proofs.Meeting.{is_known, is_graph_of}
use Rattle.px_callgraph.proofs.graph.Graph.new.Goals as goal

pub invariant_of-result : goal.invariant_of-result
invariant_of-result c =
    let edges : List (List ℕ) = c.in_ok-edges.edges in
    let numbers : List ℕ = c.in_ok-components.components.numbers.items in
    let size : length edges ≡ c.max.result = c.in_ok-edges.ensures.size in
    let k = c.requires.kept in
    subst (λ (g : List (List ℕ)). IsKnown g numbers c.in_ok-cycles.cycles.items c.in_ok-ranks.ranks.items) (sym c.in_ok-callees.ensures)
    (is_known edges c.args.kept numbers c.in_ok-components.components.count c.in_ok-cycles.cycles.items c.in_ok-ranks.ranks.items
    (omega arith)
    (λ x y e. let l = caller_inside c.args.bodies.now x y ((c.in_ok-edges.ensures.edges x y).0 e) in omega arith)
    (λ x y e. let l = c.requires.names x y ((c.in_ok-edges.ensures.edges x y).0 e) in omega arith)
    c.in_ok-components.ensures
    c.in_ok-cycles.ensures.size
    (subst (λ (ns : List ℕ). (x : ℕ) → x < length edges → (get_or c.in_ok-cycles.cycles.items x false ≡ true ↔ IsOnCycle edges ns x)) c.deref.ensures.value c.in_ok-cycles.ensures.each)
    c.in_ok-ranks.ensures.size
    (subst (λ (ns : List ℕ). (x : ℕ) → x < length edges → IsRanked edges ns c.args.kept c.in_ok-ranks.ranks.items x) c.deref-2.ensures.value c.in_ok-ranks.ensures.ranked))

pub returns-clause-graph : goal.returns-clause-graph
returns-clause-graph c =
    let edges : List (List ℕ) = c.in_ok-edges.edges in
    let size : length edges ≡ c.max.result = c.in_ok-edges.ensures.size in
    let k = c.requires.kept in
    subst (IsGraphOf (bodies_in c.args.bodies.now)) (sym c.in_ok-callees.ensures)
    (is_graph_of (bodies_in c.args.bodies.now) edges c.args.kept (omega arith)
    (λ x y e. let l = caller_inside c.args.bodies.now x y ((c.in_ok-edges.ensures.edges x y).0 e) in omega arith)
    c.in_ok-edges.ensures.edges c.in_ok-edges.ensures.rising)
