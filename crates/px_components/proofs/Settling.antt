-- The last group is settled.
use Rattle.std.proofs.Common.{◌≡◌, ◌≢◌, ◌↔◌, ◌⊎◌, inl, inr, ℕ, ◌+◌, ◌-◌, ◌<◌, ◌≤◌, List, length, get_or, take, refl, sym, ap, subst, ◌∙◌, arith}
use Rattle.std.proofs.lemmas.Bool.{cases_eq, cases_lt}
use Rattle.std.proofs.lemmas.List.{get_or-take, length-take-le}
use Rattle.px_components.specs.Graphs.{IsEdge, Reaches, stays, steps, AreTogether}
use Rattle.px_components.specs.Searches.{State, node_at, group_at, IsPath, AreGroups, AreSettled, Precedes, PrecedesTarget, IsFollowed, to_settled, to_path, to_target, IsSearch, IsMarked}
use Rattle.px_components.specs.declared.search.Node.{Node}
use Rattle.px_components.specs.declared.search.Node.TheVariants.{New, Open, Settled}
use Rattle.px_components.specs.declared.search.Group.{Group}

-- what a settled node reaches is settled
pub settled_reach : (graph : List (List ℕ)) (nodes : List Node) (numbers : List ℕ) (count : ℕ) {x y : ℕ} → AreSettled graph nodes numbers count
    → node_at nodes x ≡ Settled → Reaches graph x y → node_at nodes y ≡ Settled
settled_reach graph nodes numbers count h e stays = e
settled_reach graph nodes numbers count h e (steps {x} {y} k r) = settled_reach graph nodes numbers count h (h.closed x y e k).0 r

node_cases : (n : Node) → (n ≡ New) ⊎ ((p : ℕ) × (n ≡ Open p)) ⊎ (n ≡ Settled)
node_cases New = inl refl
node_cases (Open p) = inr (inl (p, refl))
node_cases Settled = inr (inr refl)

module _ (graph : List (List ℕ)) (s : State) (h : IsSearch graph s) (some : 0 < length s.groups)
    (done : length s.targets ≤ (group_at s.groups (length s.groups - 1)).target)
    (nodes : List Node) (numbers : List ℕ)
    (marked : IsMarked s.path (group_at s.groups (length s.groups - 1)).node (length s.path) s.count s.nodes nodes s.numbers numbers) where
  abbrev last : ℕ
  last = length s.groups - 1

  abbrev start : ℕ
  start = (group_at s.groups last).node

  abbrev settled : State
  settled = record { nodes = nodes; numbers = numbers; count = s.count + 1; path = take start s.path; groups = take last s.groups; targets = s.targets }

  inside : start < length s.path
  inside = (h.are_groups.inside last (omega arith)).0

  -- the number of a node
  abbrev number : ℕ → ℕ
  number x = get_or numbers x 0

  -- ---- which nodes are changed

  abbrev IsMember : ℕ → Type 0
  IsMember x = (p : ℕ) × (start ≤ p) × (p < length s.path) × (get_or s.path p 0 ≡ x)

  abbrev IsKept : ℕ → Type 0
  IsKept x = (node_at nodes x ≡ node_at s.nodes x) × (get_or numbers x 0 ≡ get_or s.numbers x 0)

  -- a node that isn't open at a place of the group is kept
  keeps : (x : ℕ) → ((p : ℕ) → start ≤ p → node_at s.nodes x ≢ Open p) → IsKept x
  keeps x d = marked.kept x (λ p l m e. d p l (ap (node_at s.nodes) (sym e) ∙ h.is_path.held p m))

  keeps_settled : (x : ℕ) → node_at s.nodes x ≡ Settled → IsKept x
  keeps_settled x e = keeps x (λ p l f. let g = sym e ∙ f in cc)

  keeps_open : (x p : ℕ) → p < start → node_at s.nodes x ≡ Open p → IsKept x
  keeps_open x p l e = keeps x (λ q m f. let g : Open p ≡ Open q = sym e ∙ f in let i : p ≡ q = cc in omega arith)

  cases : (x : ℕ) → IsMember x ⊎ IsKept x
  cases x = elim (node_cases (node_at s.nodes x)) [
    | inl e ↦ inr (keeps x (λ p l f. let g = sym e ∙ f in cc))
    | inr (inl (p, e)) ↦ (elim (cases_lt p start) [
      | inl l ↦ inr (keeps_open x p l e)
      | inr l ↦ (let g = h.is_path.placed x p e in inl (p, l, g.0, g.1))
    ])
    | inr (inr e) ↦ inr (keeps_settled x e)
  ]

  member : (x : ℕ) → IsMember x → (node_at nodes x ≡ Settled) × (number x ≡ s.count)
  member x (p, l, m, e) = subst (λ y. (node_at nodes y ≡ Settled) × (number y ≡ s.count)) e (marked.settled p l m)

  member_open : (x : ℕ) → IsMember x → node_at s.nodes x ≢ Settled
  member_open x (p, l, m, e) f = let g = sym (h.is_path.held p m) ∙ ap (node_at s.nodes) e ∙ f in cc

  -- a settled node was so before, or is a member
  abbrev WasSettled : ℕ → Type 0
  WasSettled x = (node_at s.nodes x ≡ Settled) × (number x ≡ get_or s.numbers x 0)

  settled_cases : (x : ℕ) → node_at nodes x ≡ Settled → IsMember x ⊎ WasSettled x
  settled_cases x e = elim (cases x) [ inl m ↦ inl m | inr k ↦ inr (sym k.0 ∙ e, k.1) ]

  stays_settled : (x : ℕ) → node_at s.nodes x ≡ Settled → (node_at nodes x ≡ Settled) × (number x ≡ get_or s.numbers x 0)
  stays_settled x e = let k = keeps_settled x e in (k.0 ∙ e, k.1)

  below_count : (x : ℕ) → WasSettled x → number x < s.count
  below_count x (e, f) = let b = h.are_settled.below x e in omega arith

  -- ---- the members are a component

  from_last : (k : ℕ) → k < length s.groups → (group_at s.groups k).node ≤ start
  from_last k l = elim (cases_eq k last) [
    | inl e ↦ (let f = ap (λ j. (group_at s.groups j).node) e in omega arith)
    | inr d ↦ (let r = (h.are_groups.rising k last (omega arith) (omega arith)).0 in omega arith)
  ]

  members_reach : (x y : ℕ) → IsMember x → IsMember y → Reaches graph x y
  members_reach x y (p, l, m, e) (q, i, j, f) =
      subst (λ a. Reaches graph a y) e (subst (Reaches graph (get_or s.path p 0)) f (h.along p q m j (λ k n a. let b = from_last k n in omega arith)))

  -- an edge from a member leads to a member or to a settled node
  member_edge : (x y : ℕ) → IsMember x → IsEdge graph x y → IsMember y ⊎ (node_at s.nodes y ≡ Settled)
  member_edge x y (p, l, m, e) k = by (h.followed p y m (subst (λ a. IsEdge graph a y) (sym e) k))
    where
      by : IsFollowed s p y → IsMember y ⊎ (node_at s.nodes y ≡ Settled)
      by (to_settled f) = inr f
      by (to_path q i f b) = inl (q, b last (omega arith) l, i, f)
      by (to_target i j f b) = let c = b last (omega arith) l in absurd (omega arith)

  new_closed : (x y : ℕ) → node_at nodes x ≡ Settled → IsEdge graph x y → (node_at nodes y ≡ Settled) × (number y ≤ number x)
  new_closed x y e k = elim (settled_cases x e) [
    | inl m ↦ (let n = (member x m).1 in elim (member_edge x y m k) [
      | inl i ↦ (let o = member y i in (o.0, let z = o.1 in omega arith))
      | inr f ↦ (let t = stays_settled y f in (t.0, let b = below_count y (f, t.1) in omega arith))
    ])
    | inr w ↦ (let c = h.are_settled.closed x y w.0 k in let t = stays_settled y c.0 in (t.0, let a = c.1 in let b = t.1 in let d = w.1 in omega arith))
  ]

  apart : (x y : ℕ) → IsMember x → WasSettled y → ¬ Reaches graph y x
  apart x y m w r = member_open x m (settled_reach graph s.nodes s.numbers s.count h.are_settled w.0 r)

  new_same : (x y : ℕ) → node_at nodes x ≡ Settled → node_at nodes y ≡ Settled → (number x ≡ number y) ↔ AreTogether graph x y
  new_same x y e f = elim (settled_cases x e) [
    | inl m ↦ (elim (settled_cases y f) [
      | inl n ↦ (λ k. (members_reach x y m n, members_reach y x n m), λ k. (member x m).1 ∙ sym (member y n).1)
      | inr w ↦ (λ k. let a = (member x m).1 in let b = below_count y w in absurd (omega arith), λ k. absurd (apart x y m w k.1))
    ])
    | inr v ↦ (elim (settled_cases y f) [
      | inl n ↦ (λ k. let a = (member y n).1 in let b = below_count x v in absurd (omega arith), λ k. absurd (apart y x n v k.0))
      | inr w ↦ (let o = h.are_settled.same x y v.0 w.0 in (λ k. o.0 (sym v.1 ∙ k ∙ w.1), λ k. v.1 ∙ o.1 k ∙ sym w.1))
    ])
  ]

  first_member : IsMember (get_or s.path start 0)
  first_member = (start, omega arith, inside, refl)

  new_settled : AreSettled graph nodes numbers (s.count + 1)
  new_settled = record {
    closed = new_closed;
    same = new_same;
    below = λ x e. elim (settled_cases x e) [
      | inl m ↦ (let n = (member x m).1 in omega arith)
      | inr w ↦ (let b = below_count x w in omega arith)
    ];
    dense = λ k l. elim (cases_lt k s.count) [
      | inl m ↦ (let d = h.are_settled.dense k m in let t = stays_settled d.0 d.1 in (d.0, t.0, t.1 ∙ d.2))
      | inr m ↦ (let n = member (get_or s.path start 0) first_member in (get_or s.path start 0, n.0, n.1 ∙ (let e : s.count ≡ k = omega arith in e)))
    ];
  }

  -- ---- what is left of the path

  path_length : length settled.path ≡ start
  path_length = length-take-le start s.path (let i = inside in omega arith)

  path_old : (p : ℕ) → p < start → get_or settled.path p 0 ≡ get_or s.path p 0
  path_old p l = get_or-take start s.path p 0 l

  groups_length : length settled.groups ≡ last
  groups_length = length-take-le last s.groups (omega arith)

  group_old : (k : ℕ) → k < last → group_at settled.groups k ≡ group_at s.groups k
  group_old k l = get_or-take last s.groups k (record { node = 0; target = 0 }) l

  left_path : IsPath nodes settled.path
  left_path = record {
    placed = λ x p e. elim (cases x) [
      | inl m ↦ (let n = (member x m).0 in let f = sym n ∙ e in cc)
      | inr k ↦ (let g = h.is_path.placed x p (sym k.0 ∙ e) in elim (cases_lt p start) [
        | inl l ↦ (let n = path_length in omega arith, path_old p l ∙ g.1)
        | inr l ↦ (let n = (member x (p, l, g.0, g.1)).0 in let f = sym n ∙ e in cc)
      ])
    ];
    held = λ p l. (
        let m : p < start = (let n = path_length in omega arith) in
        let o = h.is_path.held p (let i = inside in omega arith) in
        ap (node_at nodes) (path_old p m) ∙ (keeps_open (get_or s.path p 0) p m o).0 ∙ o);
  }

  left_groups : AreGroups settled.path settled.groups s.targets
  left_groups = record {
    inside = λ k l. (
        let m : k < last = (let n = groups_length in omega arith) in
        subst (λ g. (g.node < length settled.path) × (g.target ≤ length s.targets)) (sym (group_old k m))
        (let r = (h.are_groups.rising k last m (omega arith)).0 in let n = path_length in omega arith, (h.are_groups.inside k (omega arith)).1));
    rising = λ j k l m. (
        let n : k < last = (let o = groups_length in omega arith) in
        subst (λ a. (a.node < (group_at settled.groups k).node) × (a.target ≤ (group_at settled.groups k).target)) (sym (group_old j (omega arith)))
        (subst (λ b. ((group_at s.groups j).node < b.node) × ((group_at s.groups j).target ≤ b.target)) (sym (group_old k n)) (h.are_groups.rising j k l (omega arith))));
    first = λ l. (
        let f = h.are_groups.first (let i = inside in omega arith) in
        let m : 0 < last = elim (cases_eq last 0) [
          | inl e ↦ (let g = ap (λ k. (group_at s.groups k).node) e in let o = f.1 in let n = path_length in absurd (omega arith))
          | inr d ↦ omega arith
        ] in
        (let o = groups_length in omega arith, ap (λ (g : Group). g.node) (group_old 0 m) ∙ f.1));
  }

  -- of the places that are left none is of the last group
  precedes_old : (p q : ℕ) → p < start → Precedes settled.groups p q → Precedes s.groups p q
  precedes_old p q l f k m a = elim (cases_lt k last) [
    | inl n ↦ subst (λ g. g.node ≤ q) (group_old k n) (f k (let o = groups_length in omega arith) (subst (λ g. g.node ≤ p) (sym (group_old k n)) a))
    | inr n ↦ (let e : k ≡ last = omega arith in let g = ap (λ j. (group_at s.groups j).node) e in absurd (omega arith))
  ]

  precedes_left : (p q : ℕ) → Precedes s.groups p q → Precedes settled.groups p q
  precedes_left p q f k m a =
      let n : k < last = (let o = groups_length in omega arith) in
      subst (λ g. g.node ≤ q) (sym (group_old k n)) (f k (omega arith) (subst (λ g. g.node ≤ p) (group_old k n) a))

  target_left : (p i : ℕ) → PrecedesTarget s.groups p i → PrecedesTarget settled.groups p i
  target_left p i f k m a =
      let n : k < last = (let o = groups_length in omega arith) in
      subst (λ g. g.target ≤ i) (sym (group_old k n)) (f k (omega arith) (subst (λ g. g.node ≤ p) (group_old k n) a))

  left_followed : (p z : ℕ) → IsFollowed s p z → IsFollowed settled p z
  left_followed p z (to_settled e) = to_settled (stays_settled z e).0
  left_followed p z (to_path q l e f) = elim (cases_lt q start) [
    | inl m ↦ to_path q (let n = path_length in omega arith) (path_old q m ∙ e) (precedes_left p q f)
    | inr m ↦ to_settled (member z (q, m, l, e)).0
  ]
  left_followed p z (to_target i l e f) = to_target i l e (target_left p i f)

  pub search_settled : IsSearch graph settled
  search_settled = record {
    few = h.few;
    all_nodes = marked.all_nodes ∙ h.all_nodes;
    all_numbers = marked.all_numbers ∙ h.all_numbers;
    room = let n = path_length in let i = inside in let r = h.room in let w = marked.new_same (λ x. 1) in omega arith;
    inside = h.inside;
    is_path = left_path;
    are_groups = left_groups;
    are_settled = new_settled;
    along = λ p q l m f. (
        let a : p < start = (let n = path_length in omega arith) in
        let b : q < start = (let n = path_length in omega arith) in
        let i = inside in
        subst (λ x. Reaches graph x (get_or settled.path q 0)) (sym (path_old p a))
        (subst (Reaches graph (get_or s.path p 0)) (sym (path_old q b)) (h.along p q (omega arith) (omega arith) (precedes_old p q a f))));
    ahead = λ k i l a m. (
        let n : k < last = (let o = groups_length in omega arith) in
        let r = (h.are_groups.rising k last n (omega arith)).0 in
        subst (λ x. Reaches graph x (get_or s.targets i 0)) (sym (ap (λ (g : Group). get_or settled.path g.node 0) (group_old k n) ∙ path_old (group_at s.groups k).node r))
        (h.ahead k i (omega arith) (subst (λ g. g.target ≤ i) (group_old k n) a) m));
    followed = λ p z l e. (
        let a : p < start = (let n = path_length in omega arith) in
        let i = inside in
        left_followed p z (h.followed p z (omega arith) (subst (λ x. IsEdge graph x z) (path_old p a) e)));
  }
