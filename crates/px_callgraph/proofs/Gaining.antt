-- Edges that are added one by one.
use Rattle.std.proofs.Common.{◌≡◌, ◌↔◌, inl, inr, ℕ, ◌<◌, List, [], ◌∷◌, ◌++◌, length, get_or, set, refl, sym, subst, ◌∙◌, arith, length-set}
use Rattle.std.specs.Prelude.{Contains}
use Rattle.std.proofs.lemmas.List.Elements.{Contains-append_left, Contains-push, Contains-push_cases}
use Rattle.px_components.specs.Graphs.{IsEdge}
use Rattle.px_components.proofs.Edges.{edge_added}
use Rattle.px_callgraph.specs.Working.{Gains, GainsFrom}

none_contained : (y : ℕ) → Contains [] y → ⊥
none_contained y (k, l, e) = omega arith

pub contains_one : (x y : ℕ) → Contains (x ∷ []) y ↔ (y ≡ x)
contains_one x y = (λ h. elim (Contains-push_cases [] x y h) [ inl n ↦ absurd (none_contained y n) | inr e ↦ sym e ], λ e. subst (Contains (x ∷ [])) (sym e) (Contains-push [] x))

pub gains_nothing : (graph : List (List ℕ)) (x : ℕ) → Gains graph x [] graph
gains_nothing graph x = record {
  size = refl;
  edges = λ a b. (inl, λ h. elim h [ inl e ↦ e | inr e ↦ absurd (none_contained b e.1) ]);
}

pub gains_known : (graph : List (List ℕ)) (x y : ℕ) → IsEdge graph x y → Gains graph x (y ∷ []) graph
gains_known graph x y known = record {
  size = refl;
  edges = λ a b. (inl, λ h. elim h [ inl e ↦ e | inr e ↦ subst (λ z. IsEdge graph z b) (sym e.0) (subst (IsEdge graph x) (sym ((contains_one y b).0 e.1)) known) ]);
}

module _ (old mid : List (List ℕ)) (x : ℕ) (ys : List ℕ) (y : ℕ) (h : Gains old x ys mid) (inside : x < length mid) where
  abbrev more : List (List ℕ)
  more = set mid x (get_or mid x [] ++ y ∷ [])

  pub gains_more : Gains old x (ys ++ y ∷ []) more
  gains_more = record {
    size = length-set mid x (get_or mid x [] ++ y ∷ []) ∙ h.size;
    edges = λ a b. (
      λ e. elim ((edge_added mid x y inside a b).0 e) [
        | inl o ↦ (elim ((h.edges a b).0 o) [ inl p ↦ inl p | inr p ↦ inr (p.0, Contains-append_left ys (y ∷ []) b p.1) ])
        | inr o ↦ inr (o.0, subst (Contains (ys ++ y ∷ [])) (sym o.1) (Contains-push ys y))
      ],
      λ e. (edge_added mid x y inside a b).1 (elim e [
        | inl p ↦ inl ((h.edges a b).1 (inl p))
        | inr p ↦ (elim (Contains-push_cases ys y b p.1) [ inl c ↦ inl ((h.edges a b).1 (inr (p.0, c))) | inr c ↦ inr (p.0, sym c) ])
      ]),
    );
  }

pub gains_from_nothing : (graph : List (List ℕ)) (y : ℕ) → GainsFrom graph [] y graph
gains_from_nothing graph y = record {
  size = refl;
  edges = λ a b. (inl, λ h. elim h [ inl e ↦ e | inr e ↦ absurd (none_contained a e.0) ]);
}

pub gains_from_more : (old mid new : List (List ℕ)) (xs : List ℕ) (x y : ℕ) → GainsFrom old xs y mid → Gains mid x (y ∷ []) new → GainsFrom old (xs ++ x ∷ []) y new
gains_from_more old mid new xs x y h k = record {
  size = k.size ∙ h.size;
  edges = λ a b. (
    λ e. elim ((k.edges a b).0 e) [
      | inl o ↦ (elim ((h.edges a b).0 o) [ inl p ↦ inl p | inr p ↦ inr (Contains-append_left xs (x ∷ []) a p.0, p.1) ])
      | inr o ↦ inr (subst (Contains (xs ++ x ∷ [])) (sym o.0) (Contains-push xs x), (contains_one y b).0 o.1)
    ],
    λ e. (k.edges a b).1 (elim e [
      | inl p ↦ inl ((h.edges a b).1 (inl p))
      | inr p ↦ (elim (Contains-push_cases xs x a p.0) [ inl c ↦ inl ((h.edges a b).1 (inr (c, p.1))) | inr c ↦ inr (sym c, (contains_one y b).1 p.1) ])
    ]),
  );
}
