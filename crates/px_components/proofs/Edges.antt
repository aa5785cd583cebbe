-- Edges, and what is reached along them.
use Rattle.std.proofs.Common.{◌≡◌, ◌↔◌, ◌⊎◌, inl, inr, ℕ, ◌<◌, ◌≤◌, List, [], ◌∷◌, ◌++◌, length, get_or, set, replicate, sym, ap, subst, arith, get_or-set_other, get_or-set_same, length-set}
use Rattle.std.specs.Prelude.{Contains, All}
use Rattle.std.proofs.lemmas.Bool.{cases_eq, cases_lt}
use Rattle.std.proofs.lemmas.List.{get_or_past, length-replicate, get_or-replicate}
use Rattle.std.proofs.lemmas.List.Elements.{Contains-get_or, Contains-append_left, Contains-push, Contains-push_cases}
use Rattle.px_components.specs.Graphs.{IsEdge, Reaches, stays, steps, IsGraph}

-- ---- what is reached

pub along : {graph : List (List ℕ)} {x y z : ℕ} → Reaches graph x y → Reaches graph y z → Reaches graph x z
along stays k = k
along (steps e h) k = steps e (along h k)

pub by_edge : {graph : List (List ℕ)} {x y : ℕ} → IsEdge graph x y → Reaches graph x y
by_edge e = steps e stays

-- an edge comes from a node of the graph
pub edge_from : (graph : List (List ℕ)) (x y : ℕ) → IsEdge graph x y → x < length graph
edge_from graph x y e = elim (cases_lt x (length graph)) [
  | inl l ↦ l
  | inr l ↦ absurd (none (get_or graph x []) y (get_or_past graph x [] l) e)
]
  where
    none : (ys : List ℕ) (y : ℕ) → ys ≡ [] → Contains ys y → ⊥
    none ys y e (k, l, h) = let z = ap length e in omega arith

-- ---- one edge more

module _ (graph : List (List ℕ)) (from to : ℕ) (inside : from < length graph) where
  abbrev more : List (List ℕ)
  more = set graph from (get_or graph from [] ++ to ∷ [])

  old_edge : (x y : ℕ) → IsEdge graph x y → IsEdge more x y
  old_edge x y e = elim (cases_eq x from) [
    | inl s ↦ subst (λ z. IsEdge more z y) (sym s)
        (subst (λ ys. Contains ys y) (sym (get_or-set_same graph from (get_or graph from [] ++ to ∷ []) [] inside))
        (Contains-append_left (get_or graph from []) (to ∷ []) y (subst (λ z. IsEdge graph z y) s e)))
    | inr d ↦ subst (λ ys. Contains ys y) (sym (get_or-set_other graph from x (get_or graph from [] ++ to ∷ []) [] d)) e
  ]

  new_edge : IsEdge more from to
  new_edge = subst (λ ys. Contains ys to) (sym (get_or-set_same graph from (get_or graph from [] ++ to ∷ []) [] inside)) (Contains-push (get_or graph from []) to)

  edge_cases : (x y : ℕ) → IsEdge more x y → IsEdge graph x y ⊎ ((x ≡ from) × (y ≡ to))
  edge_cases x y e = elim (cases_eq x from) [
    | inl s ↦ (elim (Contains-push_cases (get_or graph from []) to y
        (subst (λ ys. Contains ys y) (get_or-set_same graph from (get_or graph from [] ++ to ∷ []) [] inside) (subst (λ z. IsEdge more z y) s e))) [
          | inl h ↦ inl (subst (λ z. IsEdge graph z y) (sym s) h)
          | inr h ↦ inr (s, sym h)
        ])
    | inr d ↦ inl (subst (λ ys. Contains ys y) (get_or-set_other graph from x (get_or graph from [] ++ to ∷ []) [] d) e)
  ]

  -- the edges of the graph and the new one
  pub edge_added : (x y : ℕ) → IsEdge more x y ↔ (IsEdge graph x y ⊎ ((x ≡ from) × (y ≡ to)))
  edge_added x y = (
    edge_cases x y,
    λ h. elim h [
      | inl e ↦ old_edge x y e
      | inr e ↦ subst (λ z. IsEdge more z y) (sym e.0) (subst (λ z. IsEdge more from z) (sym e.1) new_edge)
    ],
  )

  pub graph_added : to < length graph → IsGraph graph → IsGraph more
  graph_added l h x y e = elim (edge_cases x y e) [
    | inl o ↦ (let k = h x y o in omega (arith, length-set {A = List ℕ}))
    | inr o ↦ (let k = o.1 in omega (arith, length-set {A = List ℕ}))
  ]

abbrev nothing : List ℕ
nothing = []

-- no edges
pub no_edge : (n x y : ℕ) → ¬ IsEdge (replicate n nothing) x y
no_edge n x y (k, l, h) = elim (cases_lt x n) [
  | inl i ↦ (let z = ap length (get_or-replicate n x nothing nothing i) in absurd (omega arith))
  | inr i ↦ (let m : length (replicate n nothing) ≤ x = omega (arith, length-replicate n nothing) in let z = ap length (get_or_past (replicate n nothing) x nothing m) in absurd (omega arith))
]

-- where the edges from a node lead
pub targets_inside : (graph : List (List ℕ)) (x : ℕ) (ys : List ℕ) → IsGraph graph → ys ≡ get_or graph x [] → All (λ y. y < length graph) ys
targets_inside graph x ys h e = subst (All (λ y. y < length graph)) (sym e) (λ k d l. h x (get_or (get_or graph x []) k d) (Contains-get_or (get_or graph x []) k d l))
