-- Which procedures are together, and their ranks, by the components of their graph.
use Rattle.std.proofs.Common.{◌≡◌, ◌≢◌, ◌↔◌, inl, inr, ℕ, ◌<◌, ◌≤◌, List, [], Bool, true, false, length, get_or, take, sym, subst, ◌∙◌, arith, length-take}
use Rattle.std.specs.Prelude.{AllPairs, Contains, Option}
use Rattle.std.proofs.lemmas.Bool.{cases_lt}
use Rattle.std.proofs.lemmas.List.{get_or-take, get_or_default, length-take-le}
use Rattle.px_core.specs.BodyTree.{BodyTree}
use Rattle.px_components.specs.Graphs.{IsEdge, IsGraph, AreComponents}
use Rattle.px_components.specs.Graphs as graph
use Rattle.px_components.proofs.Edges.{along, by_edge, edge_from}
use Rattle.px_callgraph.specs.Callees.{IsCallee, Reaches, by_call, by_calls, AreTogether}
use Rattle.px_callgraph.specs.CallGraphs.{IsGraphOf}
use Rattle.px_callgraph.specs.Ranks.{AreRanks}
use Rattle.px_callgraph.specs.Working.{IsRanked, IsOnCycle, IsKnown}

module _ (bodies : ℕ → Option BodyTree) (edges : List (List ℕ)) (same : (f g : ℕ) → IsEdge edges f g ↔ IsCallee bodies f g) where
  -- what is reached by calls is reached by an edge and then others
  first_edge : {f g : ℕ} → Reaches bodies f g → (z : ℕ) × IsEdge edges f z × graph.Reaches edges z g
  first_edge (by_call {f} {g} c) = (g, (same f g).1 c, graph.stays)
  first_edge (by_calls {f} {g} {h} c r) = let (z, e, q) = first_edge r in (g, (same f g).1 c, graph.steps e q)

  by_edges : {f g : ℕ} → Reaches bodies f g → graph.Reaches edges f g
  by_edges r = let (z, e, q) = first_edge r in graph.steps e q

  calls_by : {f z g : ℕ} → IsEdge edges f z → graph.Reaches edges z g → Reaches bodies f g
  calls_by {f} {z} e graph.stays = by_call ((same f z).0 e)
  calls_by {f} {z} e (graph.steps d r) = by_calls ((same f z).0 e) (calls_by d r)

  -- edges before calls
  edges_first : {f g h : ℕ} → graph.Reaches edges f g → Reaches bodies g h → Reaches bodies f h
  edges_first graph.stays k = k
  edges_first (graph.steps {x} {y} {z} e r) k = by_calls ((same x y).0 e) (edges_first r k)

  module _ (numbers : List ℕ) (count : ℕ) (components : AreComponents edges numbers count) (inside : IsGraph edges) where
    of_component : (x y : ℕ) → x < length edges → y < length edges → get_or numbers x 0 ≡ get_or numbers y 0 → graph.AreTogether edges x y
    of_component x y l m e = (components.same x y l m).0 e

    pub together_as : (a b : ℕ) → a < length edges → b < length edges → AreTogether bodies a b ↔ ((get_or numbers a 0 ≡ get_or numbers b 0) × IsOnCycle edges numbers a)
    together_as a b l m = (
      λ (r, s). let (z, e, q) = first_edge r in (
        (components.same a b l m).1 (by_edges r, by_edges s),
        (z, e, (components.same z a (inside a z e) l).1 (along q (by_edges s), by_edge e)),
      ),
      λ (n, (y, e, k)).
          let (p, q) = of_component a b l m n in
          let back = (of_component y a (inside a y e) l k).0 in
          (calls_by e (along back p), edges_first q (calls_by e back)),
    )

    -- what is called and isn't together is of another component
    apart_as : (f g : ℕ) → IsCallee bodies f g → ¬ AreTogether bodies f g ↔ (get_or numbers g 0 ≢ get_or numbers f 0)
    apart_as f g c =
        let e = (same f g).1 c in
        let l = edge_from edges f g e in
        let m = inside f g e in (
          λ apart n. apart ((together_as f g l m).1 (sym n, (g, e, n))),
          λ other t. other (sym ((together_as f g l m).0 t).0),
        )

    pub ranks_as : (kept : ℕ) (ranks : List ℕ) → kept ≤ length edges → ((x : ℕ) → x < length edges → IsRanked edges numbers kept ranks x) → AreRanks bodies kept (λ x. get_or ranks x 0)
    ranks_as kept ranks few ranked = record {
      above = λ f g l c. (ranked f (omega arith)).above g (record { target = (same f g).1 c.callee; is_kept = c.is_kept; apart = (apart_as f g c.callee).0 c.apart });
      least = λ f n l h. (ranked f (omega arith)).least n (λ y o.
          let c = (same f y).0 o.target in
          h y (record { callee = c; is_kept = o.is_kept; apart = (apart_as f y c).1 o.apart }));
    }

-- the edges from the first nodes, where no others have any
pub first_edges : (edges : List (List ℕ)) (kept : ℕ) → ((x y : ℕ) → IsEdge edges x y → x < kept) → (x y : ℕ) → IsEdge edges x y ↔ IsEdge (take kept edges) x y
first_edges edges kept few x y = (
  λ e. subst (λ (ys : List ℕ). Contains ys y) (sym (get_or-take kept edges x [] (few x y e))) e,
  λ e. elim (cases_lt x kept) [
    | inl l ↦ subst (λ (ys : List ℕ). Contains ys y) (get_or-take kept edges x [] l) e
    | inr l ↦ (let m = edge_from (take kept edges) x y e in let n = length_at_most kept edges in absurd (omega arith))
  ],
)
  where
    length_at_most : (n : ℕ) (xs : List (List ℕ)) → length (take n xs) ≤ n
    length_at_most n xs = grind (arith, length-take {A = List ℕ} n xs)

pub is_graph_of : (bodies : ℕ → Option BodyTree) (edges : List (List ℕ)) (kept : ℕ) → kept ≤ length edges → ((x y : ℕ) → IsEdge edges x y → x < kept) →
    ((f g : ℕ) → IsEdge edges f g ↔ IsCallee bodies f g) → ((x : ℕ) → AllPairs (λ a b. a < b) (get_or edges x [])) → IsGraphOf bodies (take kept edges)
is_graph_of bodies edges kept l few same rising = record {
  callees = λ f g. (λ e. (same f g).0 ((first_edges edges kept few f g).1 e), λ c. (first_edges edges kept few f g).0 ((same f g).1 c));
  rising = λ k d m.
      let n : k < kept = (let s = length-take-le kept edges l in omega arith) in
      subst (AllPairs (λ a b. a < b)) (sym (get_or-take kept edges k d n ∙ get_or_default edges k d [] (omega arith))) (rising k);
}

-- what a call graph keeps
pub is_known : (edges : List (List ℕ)) (kept : ℕ) (numbers : List ℕ) (count : ℕ) (cycles : List Bool) (ranks : List ℕ) →
    kept ≤ length edges → ((x y : ℕ) → IsEdge edges x y → x < kept) → IsGraph edges → AreComponents edges numbers count →
    length cycles ≡ length edges → ((x : ℕ) → x < length edges → (get_or cycles x false ≡ true ↔ IsOnCycle edges numbers x)) →
    length ranks ≡ length edges → ((x : ℕ) → x < length edges → IsRanked edges numbers kept ranks x) →
    IsKnown (take kept edges) numbers cycles ranks
is_known edges kept numbers count cycles ranks l few inside components c-size cyclic r-size ranked =
    let s : length (take kept edges) ≡ kept = length-take-le kept edges l in
    let n = components.numbered in
    record {
      all_numbers = omega arith;
      all_cycles = omega arith;
      all_ranks = omega arith;
      together = λ bodies is a b i j.
          let same : (f g : ℕ) → IsEdge edges f g ↔ IsCallee bodies f g = (λ f g. (λ e. (is.callees f g).0 ((first_edges edges kept few f g).0 e), λ c. (first_edges edges kept few f g).1 ((is.callees f g).1 c))) in
          let t = together_as bodies edges same numbers count components inside a b (omega arith) (omega arith) in
          let k = cyclic a (omega arith) in
          (λ m. let p = t.0 m in (p.0, k.1 p.1), λ p. t.1 (p.0, k.0 p.1));
      are_ranks = λ bodies is.
          let same : (f g : ℕ) → IsEdge edges f g ↔ IsCallee bodies f g = (λ f g. (λ e. (is.callees f g).0 ((first_edges edges kept few f g).0 e), λ c. (first_edges edges kept few f g).1 ((is.callees f g).1 c))) in
          subst (λ m. AreRanks bodies m (λ x. get_or ranks x 0)) (sym s) (ranks_as bodies edges same numbers count components inside kept ranks l ranked);
    }
