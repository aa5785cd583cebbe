-- A new node is opened.
use Rattle.std.proofs.Common.{◌≡◌, ◌≢◌, ◌⊎◌, inl, inr, ℕ, ◌+◌, ◌-◌, ◌<◌, ◌≤◌, List, [], ◌∷◌, ◌++◌, length, get_or, set, refl, sym, ap, subst, ◌∙◌, arith, get_or-set_other, get_or-set_same, length-set, length-append}
use Rattle.std.specs.Prelude.{All}
use Rattle.std.proofs.lemmas.Bool.{cases_eq, cases_lt}
use Rattle.std.proofs.lemmas.List.{get_or_append_left, get_or_push, get_or-append_right, get_or_default, length_push}
use Rattle.std.proofs.lemmas.List.Elements.{All-append}
use Rattle.px_components.specs.Graphs.{IsEdge, Reaches, stays}
use Rattle.px_components.specs.Searches.{State, node_at, group_at, if_new, IsPath, AreGroups, AreSettled, Precedes, PrecedesTarget, IsFollowed, to_settled, to_path, to_target, IsSearch, Advances}
use Rattle.px_components.specs.declared.search.Node.{Node}
use Rattle.px_components.specs.declared.search.Node.TheVariants.{New, Open, Settled}
use Rattle.px_components.specs.declared.search.Group.{Group}
use Rattle.px_components.proofs.Edges.{along, by_edge}
use Rattle.px_components.proofs.NewNodes.{sum_set}

-- what is said of settled nodes holds of others with the same ones
pub same_settled : (graph : List (List ℕ)) (old new : List Node) (numbers : List ℕ) (count : ℕ)
    → ((x : ℕ) → node_at new x ≡ Settled → node_at old x ≡ Settled) → ((x : ℕ) → node_at old x ≡ Settled → node_at new x ≡ Settled)
    → AreSettled graph old numbers count → AreSettled graph new numbers count
same_settled graph old new numbers count back on h = record {
  closed = λ x y e k. let c = h.closed x y (back x e) k in (on y c.0, c.1);
  same = λ x y e f. h.same x y (back x e) (back y f);
  below = λ x e. h.below x (back x e);
  dense = λ k l. let d = h.dense k l in (d.0, on d.0 d.1, d.2);
}

module _ (graph : List (List ℕ)) (s : State) (y : ℕ) (h : IsSearch graph s) (inside : y < length graph) (fresh : node_at s.nodes y ≡ New)
    (reached : (p : ℕ) → p < length s.path → Reaches graph (get_or s.path p 0) y) where
  abbrev last : Group
  last = record { node = length s.path; target = length s.targets }

  abbrev opened : State
  opened = record {
    nodes = set s.nodes y (Open (length s.path));
    numbers = s.numbers;
    count = s.count;
    path = s.path ++ y ∷ [];
    groups = s.groups ++ last ∷ [];
    targets = s.targets ++ get_or graph y [];
  }

  here : node_at opened.nodes y ≡ Open (length s.path)
  here = get_or-set_same s.nodes y (Open (length s.path)) New (let e = h.all_nodes in omega arith)

  other : (x : ℕ) → x ≢ y → node_at opened.nodes x ≡ node_at s.nodes x
  other x d = get_or-set_other s.nodes y x (Open (length s.path)) New d

  -- ---- the new path

  path_old : (p : ℕ) → p < length s.path → get_or opened.path p 0 ≡ get_or s.path p 0
  path_old p l = get_or_append_left s.path (y ∷ []) 0 p l

  path_new : get_or opened.path (length s.path) 0 ≡ y
  path_new = get_or_push s.path y 0 (length s.path) refl

  more : length opened.path ≡ length s.path + 1
  more = length_push s.path y

  -- a place of the new path is one of the old path or its end
  place : (p : ℕ) → p < length opened.path → (p < length s.path) ⊎ (p ≡ length s.path)
  place p l = elim (cases_eq p (length s.path)) [ inl e ↦ inr e | inr d ↦ inl (let m = more in omega arith) ]

  not_here : (p : ℕ) → p < length s.path → get_or s.path p 0 ≢ y
  not_here p l e = let f = sym (h.is_path.held p l) ∙ ap (node_at s.nodes) e ∙ fresh in cc

  new_path : IsPath opened.nodes opened.path
  new_path = record {
    placed = λ x p e. elim (cases_eq x y) [
      | inl f ↦ (let g : Open p ≡ Open (length s.path) = sym e ∙ ap (node_at opened.nodes) f ∙ here in
          let i : p ≡ length s.path = cc in
          (let m = more in omega arith, ap (λ k. get_or opened.path k 0) i ∙ path_new ∙ sym f))
      | inr d ↦ (let g = h.is_path.placed x p (sym (other x d) ∙ e) in
          (let m = more in let k = g.0 in omega arith, path_old p g.0 ∙ g.1))
    ];
    held = λ p l. elim (place p l) [
      | inl k ↦ ap (node_at opened.nodes) (path_old p k) ∙ other (get_or s.path p 0) (not_here p k) ∙ h.is_path.held p k
      | inr e ↦ ap (λ k. node_at opened.nodes (get_or opened.path k 0)) e ∙ ap (node_at opened.nodes) path_new ∙ here ∙ ap Open (sym e)
    ];
  }

  -- ---- the new groups

  group_old : (k : ℕ) → k < length s.groups → group_at opened.groups k ≡ group_at s.groups k
  group_old k l = get_or_append_left s.groups (last ∷ []) (record { node = 0; target = 0 }) k l

  group_new : group_at opened.groups (length s.groups) ≡ last
  group_new = get_or_push s.groups last (record { node = 0; target = 0 }) (length s.groups) refl

  one_more : length opened.groups ≡ length s.groups + 1
  one_more = length_push s.groups last

  group_place : (k : ℕ) → k < length opened.groups → (k < length s.groups) ⊎ (k ≡ length s.groups)
  group_place k l = elim (cases_eq k (length s.groups)) [ inl e ↦ inr e | inr d ↦ inl (let m = one_more in omega arith) ]

  targets_length : length opened.targets ≡ length s.targets + length (get_or graph y [])
  targets_length = length-append s.targets (get_or graph y [])

  new_inside : (k : ℕ) → k < length opened.groups → ((group_at opened.groups k).node < length opened.path) × ((group_at opened.groups k).target ≤ length opened.targets)
  new_inside k l = elim (group_place k l) [
    | inl o ↦ subst (λ g. (g.node < length opened.path) × (g.target ≤ length opened.targets)) (sym (group_old k o))
        (let i = h.are_groups.inside k o in let a = i.0 in let b = i.1 in let m = more in let t = targets_length in (omega arith, omega arith))
    | inr e ↦ subst (λ g. (g.node < length opened.path) × (g.target ≤ length opened.targets)) (sym (ap (group_at opened.groups) e ∙ group_new))
        (let m = more in let t = targets_length in (omega arith, omega arith))
  ]

  new_rising : (j k : ℕ) → j < k → k < length opened.groups → ((group_at opened.groups j).node < (group_at opened.groups k).node) × ((group_at opened.groups j).target ≤ (group_at opened.groups k).target)
  new_rising j k l i = elim (group_place k i) [
    | inl o ↦ subst (λ a. (a.node < (group_at opened.groups k).node) × (a.target ≤ (group_at opened.groups k).target)) (sym (group_old j (omega arith)))
        (subst (λ b. ((group_at s.groups j).node < b.node) × ((group_at s.groups j).target ≤ b.target)) (sym (group_old k o)) (h.are_groups.rising j k l o))
    | inr e ↦ (let o : j < length s.groups = omega arith in
        subst (λ a. (a.node < (group_at opened.groups k).node) × (a.target ≤ (group_at opened.groups k).target)) (sym (group_old j o))
        (subst (λ b. ((group_at s.groups j).node < b.node) × ((group_at s.groups j).target ≤ b.target)) (sym (ap (group_at opened.groups) e ∙ group_new)) (h.are_groups.inside j o)))
  ]

  new_first : 0 < length opened.path → (0 < length opened.groups) × ((group_at opened.groups 0).node ≡ 0)
  new_first l = (
    let m = one_more in omega arith,
    elim (cases_eq (length s.path) 0) [
      | inl e ↦ (elim (cases_eq (length s.groups) 0) [
        | inl z ↦ ap (λ k. (group_at opened.groups k).node) (sym z) ∙ ap (λ (g : Group). g.node) group_new ∙ e
        | inr d ↦ (let i = h.are_groups.inside 0 (omega arith) in let a = i.0 in absurd (omega arith))
      ])
      | inr d ↦ (let f = h.are_groups.first (omega arith) in ap (λ (g : Group). g.node) (group_old 0 f.0) ∙ f.1)
    ],
  )

  new_groups : AreGroups opened.path opened.groups opened.targets
  new_groups = record { inside = new_inside; rising = new_rising; first = new_first }

  -- ---- what is reached

  -- what precedes among the new groups precedes among the old ones
  precedes_old : (p q : ℕ) → Precedes opened.groups p q → Precedes s.groups p q
  precedes_old p q f k l a = subst (λ g. g.node ≤ q) (group_old k l) (f k (let m = one_more in omega arith) (subst (λ g. g.node ≤ p) (sym (group_old k l)) a))

  -- of the old places no one is of the new group
  precedes_new : (p q : ℕ) → p < length s.path → Precedes s.groups p q → Precedes opened.groups p q
  precedes_new p q i f k l a = elim (group_place k l) [
    | inl o ↦ subst (λ g. g.node ≤ q) (sym (group_old k o)) (f k o (subst (λ g. g.node ≤ p) (group_old k o) a))
    | inr e ↦ (let b : length s.path ≤ p = subst (λ g. g.node ≤ p) (ap (group_at opened.groups) e ∙ group_new) a in absurd (omega arith))
  ]

  target_new : (p i : ℕ) → p < length s.path → PrecedesTarget s.groups p i → PrecedesTarget opened.groups p i
  target_new p i n f k l a = elim (group_place k l) [
    | inl o ↦ subst (λ g. g.target ≤ i) (sym (group_old k o)) (f k o (subst (λ g. g.node ≤ p) (group_old k o) a))
    | inr e ↦ (let b : length s.path ≤ p = subst (λ g. g.node ≤ p) (ap (group_at opened.groups) e ∙ group_new) a in absurd (omega arith))
  ]

  -- a place of the old path isn't after the new group
  not_after : (p q : ℕ) → Precedes opened.groups p q → p ≡ length s.path → q < length s.path → ⊥
  not_after p q f e l =
      let g = ap (λ (b : Group). b.node) group_new in
      let a = f (length s.groups) (let m = one_more in omega arith) (omega arith) in omega arith

  new_along : (p q : ℕ) → p < length opened.path → q < length opened.path → Precedes opened.groups p q → Reaches graph (get_or opened.path p 0) (get_or opened.path q 0)
  new_along p q l m f = elim (place q m) [
    | inl b ↦ (elim (place p l) [
      | inl a ↦ subst (λ z. Reaches graph z (get_or opened.path q 0)) (sym (path_old p a))
          (subst (Reaches graph (get_or s.path p 0)) (sym (path_old q b)) (h.along p q a b (precedes_old p q f)))
      | inr e ↦ absurd (not_after p q f e b)
    ])
    | inr e ↦ subst (Reaches graph (get_or opened.path p 0)) (sym (ap (λ k. get_or opened.path k 0) e ∙ path_new)) (to_new p l)
  ]
    where
      to_new : (p : ℕ) → p < length opened.path → Reaches graph (get_or opened.path p 0) y
      to_new p l = elim (place p l) [
        | inl a ↦ subst (λ z. Reaches graph z y) (sym (path_old p a)) (reached p a)
        | inr e ↦ subst (λ z. Reaches graph z y) (sym (ap (λ k. get_or opened.path k 0) e ∙ path_new)) stays
      ]

  -- each new target is after an edge from the new node
  target_edge : (i : ℕ) → length s.targets ≤ i → i < length opened.targets → IsEdge graph y (get_or opened.targets i 0)
  target_edge i l m = subst (IsEdge graph y) (sym (get_or-append_right s.targets (get_or graph y []) (length s.targets) i 0 refl l))
      (i - length s.targets, let t = targets_length in omega arith, get_or_default (get_or graph y []) (i - length s.targets) (get_or (get_or graph y []) (i - length s.targets) 0) 0 (let t = targets_length in omega arith))

  new_ahead : (k i : ℕ) → k < length opened.groups → (group_at opened.groups k).target ≤ i → i < length opened.targets
      → Reaches graph (get_or opened.path (group_at opened.groups k).node 0) (get_or opened.targets i 0)
  new_ahead k i l a m = elim (group_place k l) [
    | inl o ↦ (let n = (h.are_groups.inside k o).0 in
        subst (λ z. Reaches graph z (get_or opened.targets i 0)) (sym (ap (λ (g : Group). get_or opened.path g.node 0) (group_old k o) ∙ path_old (group_at s.groups k).node n))
        (elim (cases_lt i (length s.targets)) [
          | inl b ↦ subst (Reaches graph (get_or s.path (group_at s.groups k).node 0)) (sym (get_or_append_left s.targets (get_or graph y []) 0 i b))
              (h.ahead k i o (subst (λ g. g.target ≤ i) (group_old k o) a) b)
          | inr b ↦ along (reached (group_at s.groups k).node n) (by_edge (target_edge i b m))
        ]))
    | inr e ↦ (let g = ap (group_at opened.groups) e ∙ group_new in
        subst (λ z. Reaches graph z (get_or opened.targets i 0)) (sym (ap (λ (b : Group). get_or opened.path b.node 0) g ∙ path_new))
        (by_edge (target_edge i (subst (λ b. b.target ≤ i) g a) m)))
  ]

  followed_old : (p z : ℕ) → p < length s.path → IsFollowed s p z → IsFollowed opened p z
  followed_old p z l (to_settled e) = to_settled (other z (λ f. let g = sym e ∙ ap (node_at s.nodes) f ∙ fresh in cc) ∙ e)
  followed_old p z l (to_path q m e f) = to_path q (let k = more in omega arith) (path_old q m ∙ e) (precedes_new p q l f)
  followed_old p z l (to_target i m e f) = to_target i (let t = targets_length in omega arith) (get_or_append_left s.targets (get_or graph y []) 0 i m ∙ e) (target_new p i l f)

  followed_new : (z : ℕ) → IsEdge graph y z → IsFollowed opened (length s.path) z
  followed_new z (j, l, e) = to_target (length s.targets + j) (let t = targets_length in omega arith)
      (get_or-append_right s.targets (get_or graph y []) (length s.targets) (length s.targets + j) 0 refl (omega arith)
      ∙ ap (λ k. get_or (get_or graph y []) k 0) (let q : length s.targets + j - length s.targets ≡ j = omega arith in q)
      ∙ get_or_default (get_or graph y []) j 0 z l ∙ e)
      (λ k m a. elim (group_place k m) [
        | inl o ↦ (let t = (h.are_groups.inside k o).1 in subst (λ g. g.target ≤ length s.targets + j) (sym (group_old k o)) (omega arith))
        | inr f ↦ subst (λ g. g.target ≤ length s.targets + j) (sym (ap (group_at opened.groups) f ∙ group_new)) (omega arith)
      ])

  pub search_opened : All (λ z. z < length graph) (get_or graph y []) → IsSearch graph opened
  search_opened bounded = record {
    few = h.few;
    all_nodes = length-set s.nodes y (Open (length s.path)) ∙ h.all_nodes;
    all_numbers = h.all_numbers;
    room = (
        let e = sum_set (λ x. 1) s.nodes y (Open (length s.path)) (let n = h.all_nodes in omega arith) in
        let f = ap (if_new 1) fresh in
        let r = h.room in let m = more in omega arith);
    inside = All-append (λ z. z < length graph) s.targets (get_or graph y []) h.inside bounded;
    is_path = new_path;
    are_groups = new_groups;
    are_settled = same_settled graph s.nodes opened.nodes s.numbers s.count
        (λ x e. elim (cases_eq x y) [ inl f ↦ (let g = sym e ∙ ap (node_at opened.nodes) f ∙ here in cc) | inr d ↦ sym (other x d) ∙ e ])
        (λ x e. other x (λ f. let g = sym e ∙ ap (node_at s.nodes) f ∙ fresh in cc) ∙ e)
        h.are_settled;
    along = new_along;
    ahead = new_ahead;
    followed = λ p z l e. elim (place p l) [
      | inl a ↦ followed_old p z a (h.followed p z a (subst (λ x. IsEdge graph x z) (path_old p a) e))
      | inr f ↦ subst (λ k. IsFollowed opened k z) (sym f) (followed_new z (subst (λ x. IsEdge graph x z) (ap (λ k. get_or opened.path k 0) f ∙ path_new) e))
    ];
  }

  pub opens : node_at opened.nodes y ≢ New
  opens e = let f = sym here ∙ e in cc

  pub advances_opened : Advances graph s opened
  advances_opened = record {
    known = λ x d e. elim (cases_eq x y) [ inl f ↦ (let g = sym here ∙ ap (node_at opened.nodes) (sym f) ∙ e in cc) | inr f ↦ d (sym (other x f) ∙ e) ];
    less = (
        let e = sum_set (λ x. length (get_or graph x []) + 2) s.nodes y (Open (length s.path)) (let n = h.all_nodes in omega arith) in
        let f = ap (if_new (length (get_or graph y []) + 2)) fresh in
        let t = targets_length in let g = one_more in omega arith);
  }
