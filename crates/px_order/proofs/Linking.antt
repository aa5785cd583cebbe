-- The graph of comparisons.
use Rattle.std.proofs.Common.{◌≡◌, ◌↔◌, ◌⊎◌, inl, inr, ℕ, ◌+◌, ◌<◌, ◌≤◌, List, [], ◌∷◌, ◌++◌, length, get_or, take, set, sym, ap, ◌∙◌, arith}
use Rattle.std.specs.Prelude.{false}
use Rattle.std.proofs.lemmas.Bool.{cases_eq}
use Rattle.std.proofs.lemmas.List.{get_or-take, length-take-le}
use Rattle.px_components.specs.Graphs.{IsEdge}
use Rattle.px_components.proofs.Edges.{edge_added}
use Rattle.px_order.specs.declared.comparisons.Comparison.{Comparison}
use Rattle.px_order.specs.Comparisons.{comparison_at, IsCompared}

module _ (cs : List Comparison) (i : ℕ) (l : i < length cs) where
  at_before : (n k : ℕ) → k < n → n ≤ length cs → comparison_at (take n cs) k ≡ comparison_at cs k
  at_before n k m o = get_or-take n cs k (record { first = 0; second = 0; strict = false }) m

  size : (n : ℕ) → n ≤ length cs → length (take n cs) ≡ n
  size n o = length-take-le n cs o

  -- one comparison more
  compared_more : (x y : ℕ) → IsCompared (take (i + 1) cs) x y ↔ (IsCompared (take i cs) x y ⊎ ((x ≡ (comparison_at cs i).first) × (y ≡ (comparison_at cs i).second)))
  compared_more x y = (
    λ (k, m, e, f).
        let n : k < i + 1 = (let s = size (i + 1) (omega arith) in omega arith) in
        let g = at_before (i + 1) k n (omega arith) in
        elim (cases_eq k i) [
          | inl z ↦ inr (sym e ∙ ap (λ (c : Comparison). c.first) g ∙ ap (λ j. (comparison_at cs j).first) z, sym f ∙ ap (λ (c : Comparison). c.second) g ∙ ap (λ j. (comparison_at cs j).second) z)
          | inr d ↦ (let o = at_before i k (omega arith) (omega arith) in
              inl (k, let s = size i (omega arith) in omega arith, ap (λ (c : Comparison). c.first) (o ∙ sym g) ∙ e, ap (λ (c : Comparison). c.second) (o ∙ sym g) ∙ f))
        ],
    λ h. elim h [
      | inl (k, m, e, f) ↦ (
          let n : k < i = (let s = size i (omega arith) in omega arith) in
          let o = at_before (i + 1) k (omega arith) (omega arith) ∙ sym (at_before i k n (omega arith)) in
          (k, let s = size (i + 1) (omega arith) in omega arith, ap (λ (c : Comparison). c.first) o ∙ e, ap (λ (c : Comparison). c.second) o ∙ f))
      | inr (e, f) ↦ (
          let o = at_before (i + 1) i (omega arith) (omega arith) in
          (i, let s = size (i + 1) (omega arith) in omega arith, ap (λ (c : Comparison). c.first) o ∙ sym e, ap (λ (c : Comparison). c.second) o ∙ sym f))
    ],
  )

  pub linked_more : (graph : List (List ℕ)) → (comparison_at cs i).first < length graph
      → ((x y : ℕ) → IsEdge graph x y ↔ IsCompared (take i cs) x y)
      → (x y : ℕ) → IsEdge (set graph (comparison_at cs i).first (get_or graph (comparison_at cs i).first [] ++ (comparison_at cs i).second ∷ [])) x y ↔ IsCompared (take (i + 1) cs) x y
  linked_more graph inside h x y =
      let a = edge_added graph (comparison_at cs i).first (comparison_at cs i).second inside x y in
      let b = compared_more x y in
      let c = h x y in (
        λ e. b.1 (elim (a.0 e) [ inl o ↦ inl (c.0 o) | inr o ↦ inr o ]),
        λ k. a.1 (elim (b.0 k) [ inl o ↦ inl (c.1 o) | inr o ↦ inr o ]),
      )
