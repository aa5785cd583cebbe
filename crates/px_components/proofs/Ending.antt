-- The beginning and the end of a search.
use Rattle.std.proofs.Common.{◌≡◌, ◌≢◌, inl, inr, ℕ, ◌^◌, ◌<◌, List, [], length, replicate, refl, sym, ap, subst, ◌∙◌, arith}
use Rattle.std.proofs.lemmas.Bool.{cases_lt}
use Rattle.std.proofs.lemmas.List.{get_or_past, get_or-replicate, length-replicate}
use Rattle.std.proofs.lemmas.List.Elements.{All-nil}
use Rattle.px_components.specs.Graphs.{AreComponents}
use Rattle.px_components.specs.Searches.{State, node_at, IsSearch}
use Rattle.px_components.specs.declared.search.Node.{Node}
use Rattle.px_components.specs.declared.search.Node.TheVariants.{New, Open, Settled}
use Rattle.px_components.proofs.Edges.{edge_from}
use Rattle.px_components.proofs.NewNodes.{all_new}

-- each of so many nodes is new
each_new : (n x : ℕ) → node_at (replicate n New) x ≡ New
each_new n x = elim (cases_lt x n) [
  | inl l ↦ get_or-replicate n x New New l
  | inr l ↦ get_or_past (replicate n New) x New (omega (arith, length-replicate n New))
]

pub search_begun : (graph : List (List ℕ)) (n : ℕ) → n ≡ length graph → length graph < 2 ^ 32
    → IsSearch graph (record { nodes = replicate n New; numbers = replicate n 0; count = 0; path = []; groups = []; targets = [] })
search_begun graph n e few = record {
  few = few;
  all_nodes = length-replicate n New ∙ e;
  all_numbers = length-replicate n 0 ∙ e;
  room = let a = all_new n in omega arith;
  inside = All-nil (λ y. y < length graph);
  is_path = record { placed = λ x p f. let g = sym (each_new n x) ∙ f in cc; held = λ p l. absurd (omega arith) };
  are_groups = record { inside = λ k l. absurd (omega arith); rising = λ j k l m. absurd (omega arith); first = λ l. absurd (omega arith) };
  are_settled = record {
    closed = λ x y f k. let g = sym (each_new n x) ∙ f in cc;
    same = λ x y f k. let g = sym (each_new n x) ∙ f in cc;
    below = λ x f. let g = sym (each_new n x) ∙ f in cc;
    dense = λ k l. absurd (omega arith);
  };
  along = λ p q l m f. absurd (omega arith);
  ahead = λ k i l a m. absurd (omega arith);
  followed = λ p y l k. absurd (omega arith);
}

-- where no group is open, a node that isn't new is settled
pub idle_settled : (graph : List (List ℕ)) (s : State) → IsSearch graph s → s.groups ≡ [] → (x : ℕ) → node_at s.nodes x ≢ New → node_at s.nodes x ≡ Settled
idle_settled graph s h idle x d = by (node_at s.nodes x) refl
  where
    by : (n : Node) → node_at s.nodes x ≡ n → node_at s.nodes x ≡ Settled
    by New e = absurd (d e)
    by (Open p) e = (
        let g = (h.is_path.placed x p e).0 in
        let f = (h.are_groups.first (omega arith)).0 in
        let z = ap length idle in absurd (omega arith))
    by Settled e = e

pub components_found : (graph : List (List ℕ)) (s : State) → IsSearch graph s → s.groups ≡ [] → ((x : ℕ) → x < length graph → node_at s.nodes x ≢ New)
    → AreComponents graph s.numbers s.count
components_found graph s h idle all = record {
  numbered = h.all_numbers;
  same = λ x y l m. h.are_settled.same x y (settled x l) (settled y m);
  dense = λ k. (
    λ l. let d = h.are_settled.dense k l in (d.0, inside d.0 d.1, d.2),
    λ (x, l, e). subst (λ n. n < s.count) e (h.are_settled.below x (settled x l)),
  );
  falls = λ x y e. (h.are_settled.closed x y (settled x (edge_from graph x y e)) e).1;
}
  where
    settled : (x : ℕ) → x < length graph → node_at s.nodes x ≡ Settled
    settled x l = idle_settled graph s h idle x (all x l)

    inside : (x : ℕ) → node_at s.nodes x ≡ Settled → x < length graph
    inside x e = elim (cases_lt x (length graph)) [
      | inl l ↦ l
      | inr l ↦ (let m = h.all_nodes in let f = sym (get_or_past s.nodes x New (omega arith)) ∙ e in cc)
    ]
