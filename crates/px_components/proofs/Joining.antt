-- Groups are joined, and a target that was looked at is taken away.
use Rattle.std.proofs.Common.{◌≡◌, ◌⊎◌, inl, inr, ℕ, ◌-◌, ◌<◌, ◌≤◌, List, length, get_or, take, sym, ap, subst, ◌∙◌, arith}
use Rattle.std.proofs.lemmas.Bool.{cases_eq, cases_lt}
use Rattle.std.proofs.lemmas.List.{get_or-take, length-take-le}
use Rattle.std.proofs.lemmas.List.Elements.{All-take}
use Rattle.px_components.specs.Graphs.{Reaches}
use Rattle.px_components.specs.Searches.{State, node_at, group_at, Precedes, PrecedesTarget, IsFollowed, to_settled, to_path, to_target, IsSearch, AreJoined}
use Rattle.px_components.specs.declared.search.Node.TheVariants.{Settled}
use Rattle.px_components.specs.declared.search.Group.{Group}
use Rattle.px_components.proofs.Edges.{along}

-- ---- the last target is taken away

abbrev pub fewer_targets_left : State → State
fewer_targets_left s = record { nodes = s.nodes; numbers = s.numbers; count = s.count; path = s.path; groups = s.groups; targets = take (length s.targets - 1) s.targets }

-- the node is settled, or of the last group
abbrev IsDone : State → ℕ → Type 0
IsDone s y = (node_at s.nodes y ≡ Settled) ⊎ ((q : ℕ) × (q < length s.path) × (get_or s.path q 0 ≡ y) × ((p : ℕ) → Precedes s.groups p q))

module _ (graph : List (List ℕ)) (s : State) (h : IsSearch graph s) (some : 0 < length s.targets)
    (before : (k : ℕ) → k < length s.groups → (group_at s.groups k).target ≤ length s.targets - 1)
    (done : IsDone s (get_or s.targets (length s.targets - 1) 0)) where
  one_less : length (take (length s.targets - 1) s.targets) ≡ length s.targets - 1
  one_less = length-take-le (length s.targets - 1) s.targets (omega arith)

  by_done : (p z : ℕ) → get_or s.targets (length s.targets - 1) 0 ≡ z → IsDone s (get_or s.targets (length s.targets - 1) 0) → IsFollowed (fewer_targets_left s) p z
  by_done p z e (inl f) = to_settled (subst (λ y. node_at s.nodes y ≡ Settled) e f)
  by_done p z e (inr (q, l, f, k)) = to_path q l (f ∙ e) (k p)

  looked_followed : (p z : ℕ) → IsFollowed s p z → IsFollowed (fewer_targets_left s) p z
  looked_followed p z (to_settled e) = to_settled e
  looked_followed p z (to_path q l e f) = to_path q l e f
  looked_followed p z (to_target i l e f) = elim (cases_eq i (length s.targets - 1)) [
    | inl g ↦ by_done p z (ap (λ j. get_or s.targets j 0) (sym g) ∙ e) done
    | inr d ↦ to_target i (let o = one_less in omega arith) (get_or-take (length s.targets - 1) s.targets i 0 (omega arith) ∙ e) f
  ]

  search_looked : IsSearch graph (fewer_targets_left s)
  search_looked = record {
    few = h.few;
    all_nodes = h.all_nodes;
    all_numbers = h.all_numbers;
    room = h.room;
    inside = All-take (λ y. y < length graph) (length s.targets - 1) s.targets h.inside;
    is_path = h.is_path;
    are_groups = record {
      inside = λ k l. ((h.are_groups.inside k l).0, let b = before k l in let o = one_less in omega arith);
      rising = h.are_groups.rising;
      first = h.are_groups.first;
    };
    are_settled = h.are_settled;
    along = h.along;
    ahead = λ k i l a m. (
        let o = one_less in
        subst (Reaches graph (get_or s.path (group_at s.groups k).node 0)) (sym (get_or-take (length s.targets - 1) s.targets i 0 (omega arith))) (h.ahead k i l a (omega arith)));
    followed = λ p z l e. looked_followed p z (h.followed p z l e);
  }

-- ---- groups are joined

module _ (graph : List (List ℕ)) (s : State) (h : IsSearch graph s) where
  -- the last group begins after the others
  module _ (some : 0 < length s.groups) where
    abbrev last : ℕ
    last = length s.groups - 1

    last_precedes : (p : ℕ) → Precedes s.groups p (group_at s.groups last).node
    last_precedes p k l a = elim (cases_eq k last) [
      | inl e ↦ (let f = ap (λ j. (group_at s.groups j).node) e in omega arith)
      | inr d ↦ (let r = (h.are_groups.rising k last (omega arith) (omega arith)).0 in omega arith)
    ]

    last_target : (k : ℕ) → k < length s.groups → (group_at s.groups k).target ≤ (group_at s.groups last).target
    last_target k l = elim (cases_eq k last) [
      | inl e ↦ (let f = ap (λ j. (group_at s.groups j).target) e in omega arith)
      | inr d ↦ (h.are_groups.rising k last (omega arith) (omega arith)).1
    ]

    -- each place of the path reaches the last of the targets
    pub reach_target : (group_at s.groups last).target < length s.targets → (p : ℕ) → p < length s.path
        → Reaches graph (get_or s.path p 0) (get_or s.targets (length s.targets - 1) 0)
    reach_target left p l =
        let i = h.are_groups.inside last (omega arith) in
        along (h.along p (group_at s.groups last).node l i.0 (last_precedes p))
        (h.ahead last (length s.targets - 1) (omega arith) (omega arith) (omega arith))

  -- ---- groups are joined to that of a place

  module _ (q : ℕ) (groups : List Group) (joined : AreJoined q s.groups groups) where
    abbrev less_groups : State
    less_groups = record { nodes = s.nodes; numbers = s.numbers; count = s.count; path = s.path; groups = groups; targets = s.targets }

    -- a group that begins at or before the place is left
    left : (k : ℕ) → k < length s.groups → (group_at s.groups k).node ≤ q → k < length groups
    left k l a = elim (cases_lt k (length groups)) [ inl b ↦ b | inr b ↦ (let g = joined.gone k b l in absurd (omega arith)) ]

    old : (k : ℕ) → k < length groups → k < length s.groups
    old k l = let f = joined.fewer in omega arith

    fewer_precedes : (p r : ℕ) → Precedes s.groups p r → Precedes groups p r
    fewer_precedes p r f k l a = subst (λ g. g.node ≤ r) (sym (joined.same k l)) (f k (old k l) (subst (λ g. g.node ≤ p) (joined.same k l) a))

    fewer_targets : (p i : ℕ) → PrecedesTarget s.groups p i → PrecedesTarget groups p i
    fewer_targets p i f k l a = subst (λ g. g.target ≤ i) (sym (joined.same k l)) (f k (old k l) (subst (λ g. g.node ≤ p) (joined.same k l) a))

    fewer_followed : (p z : ℕ) → IsFollowed s p z → IsFollowed less_groups p z
    fewer_followed p z (to_settled e) = to_settled e
    fewer_followed p z (to_path r l e f) = to_path r l e (fewer_precedes p r f)
    fewer_followed p z (to_target i l e f) = to_target i l e (fewer_targets p i f)

    fewer_inside : (k : ℕ) → k < length groups → ((group_at groups k).node < length s.path) × ((group_at groups k).target ≤ length s.targets)
    fewer_inside k l = subst (λ g. (g.node < length s.path) × (g.target ≤ length s.targets)) (sym (joined.same k l)) (h.are_groups.inside k (old k l))

    fewer_rising : (j k : ℕ) → j < k → k < length groups → ((group_at groups j).node < (group_at groups k).node) × ((group_at groups j).target ≤ (group_at groups k).target)
    fewer_rising j k l m =
        subst (λ a. (a.node < (group_at groups k).node) × (a.target ≤ (group_at groups k).target)) (sym (joined.same j (omega arith)))
        (subst (λ b. ((group_at s.groups j).node < b.node) × ((group_at s.groups j).target ≤ b.target)) (sym (joined.same k m)) (h.are_groups.rising j k l (old k m)))

    fewer_first : 0 < length s.path → (0 < length groups) × ((group_at groups 0).node ≡ 0)
    fewer_first l =
        let f = h.are_groups.first l in
        let m = left 0 f.0 (let e = f.1 in omega arith) in
        (m, ap (λ (g : Group). g.node) (joined.same 0 m) ∙ f.1)

    module _ (some : 0 < length s.groups) (waits : (group_at s.groups (length s.groups - 1)).target < length s.targets)
        (inside : q < length s.path) (target : get_or s.targets (length s.targets - 1) 0 ≡ get_or s.path q 0)
        (kept : 0 < length groups → (group_at groups (length groups - 1)).node ≤ q) where
      -- the place is reached from all of the path, and reaches what its group precedes
      by_target : (p r : ℕ) → p < length s.path → r < length s.path → Precedes s.groups q r → Reaches graph (get_or s.path p 0) (get_or s.path r 0)
      by_target p r l m f = along (subst (Reaches graph (get_or s.path p 0)) target (reach_target some waits p l)) (h.along q r inside m f)

      first_left : 0 < length groups
      first_left = let f = h.are_groups.first (omega arith) in left 0 f.0 (let e = f.1 in omega arith)

      abbrev end : ℕ
      end = length groups - 1

      end_kept : (group_at s.groups end).node ≤ q
      end_kept = let l : end < length groups = (let o = first_left in omega arith) in subst (λ g. g.node ≤ q) (joined.same end l) (kept first_left)

      end_last : (k : ℕ) → k < length groups → (group_at s.groups k).node ≤ (group_at s.groups end).node
      end_last k l = elim (cases_eq k end) [
        | inl e ↦ (let f = ap (λ j. (group_at s.groups j).node) e in omega arith)
        | inr d ↦ (let r = (h.are_groups.rising k end (omega arith) (old end (let o = first_left in omega arith))).0 in omega arith)
      ]

      fewer_along : (p r : ℕ) → p < length s.path → r < length s.path → Precedes groups p r → Reaches graph (get_or s.path p 0) (get_or s.path r 0)
      fewer_along p r l m f = elim (cases_lt p (group_at s.groups end).node) [
        | inl a ↦ h.along p r l m (λ k n b.
            let i : k < length groups = elim (cases_lt k (length groups)) [
              | inl x ↦ x
              | inr x ↦ (let g = joined.gone k x n in let e = end_kept in absurd (omega arith))
            ] in
            subst (λ g. g.node ≤ r) (joined.same k i) (f k i (subst (λ g. g.node ≤ p) (sym (joined.same k i)) b)))
        | inr a ↦ by_target p r l m (λ k n b.
            let i = left k n b in
            let e = end_last k i in
            subst (λ g. g.node ≤ r) (joined.same k i) (f k i (subst (λ g. g.node ≤ p) (sym (joined.same k i)) (omega arith))))
      ]

      pub search_joined : IsSearch graph less_groups
      search_joined = record {
        few = h.few;
        all_nodes = h.all_nodes;
        all_numbers = h.all_numbers;
        room = h.room;
        inside = h.inside;
        is_path = h.is_path;
        are_groups = record { inside = fewer_inside; rising = fewer_rising; first = fewer_first };
        are_settled = h.are_settled;
        along = fewer_along;
        ahead = λ k i l a m.
            subst (λ (g : Group). Reaches graph (get_or s.path g.node 0) (get_or s.targets i 0)) (sym (joined.same k l))
            (h.ahead k i (old k l) (subst (λ g. g.target ≤ i) (joined.same k l) a) m);
        followed = λ p z l e. fewer_followed p z (h.followed p z l e);
      }

      joined_precedes : (p : ℕ) → Precedes groups p q
      joined_precedes p k l a =
          let e = end_last k l in let f = end_kept in
          subst (λ g. g.node ≤ q) (sym (joined.same k l)) (omega arith)

      -- the target was looked at
      pub search_looked_open : IsSearch graph (fewer_targets_left less_groups)
      search_looked_open = search_looked graph less_groups search_joined (omega arith)
          (λ k l. let t = last_target some k (old k l) in subst (λ (g : Group). g.target ≤ length s.targets - 1) (sym (joined.same k l)) (omega arith))
          (inr (q, inside, sym target, joined_precedes))

  pub search_looked_settled : (some : 0 < length s.groups) → (group_at s.groups (length s.groups - 1)).target < length s.targets
      → node_at s.nodes (get_or s.targets (length s.targets - 1) 0) ≡ Settled → IsSearch graph (fewer_targets_left s)
  search_looked_settled some waits e = search_looked graph s h (omega arith) (λ k l. let t = last_target some k l in omega arith) (inl e)
