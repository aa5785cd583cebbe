-- How far a search for components has come.
--
-- The open nodes lie on a path, in groups that stand one after another. From a place of the path each place of
-- its group and of later groups is reached. The targets of the edges of open nodes wait to be looked at, each with
-- the group of its node. A settled node has the number of its component, and so has all that it reaches.
use Rattle.std.specs.Prelude.{◌≡◌, ◌≢◌, ◌↔◌, ℕ, suc, ◌+◌, ◌^◌, ◌<◌, ◌≤◌, List, [], ◌∷◌, All, length, slice_index, slice_index_or}
use Rattle.px_components.specs.Graphs.{IsEdge, Reaches, AreTogether}
use Rattle.px_components.specs.declared.search.Node.{Node}
use Rattle.px_components.specs.declared.search.Node.TheVariants.{New, Open, Settled}
use Rattle.px_components.specs.declared.search.Group.{Group}
use Rattle.px_components.specs.declared.search.Search.{Search}

pub record State : Type 0 where
  pub nodes : List Node
  pub numbers : List ℕ
  pub count : ℕ
  pub path : List ℕ
  pub groups : List Group
  pub targets : List ℕ

abbrev pub state_of : Search → State
state_of s = record { nodes = s.nodes.items; numbers = s.numbers.items; count = s.count; path = s.path.items; groups = s.groups.items; targets = s.targets.items }

-- what is known of a node
abbrev pub node_at : List Node → ℕ → Node
node_at nodes x = slice_index_or nodes x New

-- a group, by its place among the groups
abbrev pub group_at : List Group → ℕ → Group
group_at groups k = slice_index_or groups k (record { node = 0; target = 0 })

-- ---- sums over the new nodes

abbrev pub if_new : ℕ → Node → ℕ
if_new n New = n
if_new n (Open p) = 0
if_new n Settled = 0

abbrev pub sum_of_new : (ℕ → ℕ) → List Node → ℕ
sum_of_new weight [] = 0
sum_of_new weight (n ∷ ns) = if_new (weight 0) n + sum_of_new (λ x. weight (suc x)) ns

-- how many nodes are new
abbrev pub new_nodes : List Node → ℕ
new_nodes nodes = sum_of_new (λ x. 1) nodes

-- how many steps may be left: each new node is opened once, and its group is settled or joined; each target is taken away once
abbrev pub work_left : List (List ℕ) → State → ℕ
work_left graph s = sum_of_new (λ x. length (slice_index_or graph x []) + 2) s.nodes + length s.targets + length s.groups

-- ---- what a search keeps

-- the path has each open node once, at the place that is known of it
pub record IsPath (nodes : List Node) (path : List ℕ) : Type 0 where
  pub placed : (x p : ℕ) → node_at nodes x ≡ Open p → (p < length path) × (slice_index path p ≡ x)
  pub held : (p : ℕ) → p < length path → node_at nodes (slice_index path p) ≡ Open p

-- the groups begin one after another, the first at the beginning of the path
pub record AreGroups (path : List ℕ) (groups : List Group) (targets : List ℕ) : Type 0 where
  pub inside : (k : ℕ) → k < length groups → ((group_at groups k).node < length path) × ((group_at groups k).target ≤ length targets)
  pub rising : (j k : ℕ) → j < k → k < length groups → ((group_at groups j).node < (group_at groups k).node) × ((group_at groups j).target ≤ (group_at groups k).target)
  pub first : 0 < length path → (0 < length groups) × ((group_at groups 0).node ≡ 0)

-- the settled nodes have the numbers of their components, and reach settled nodes alone
pub record AreSettled (graph : List (List ℕ)) (nodes : List Node) (numbers : List ℕ) (count : ℕ) : Type 0 where
  pub closed : (x y : ℕ) → node_at nodes x ≡ Settled → IsEdge graph x y → (node_at nodes y ≡ Settled) × (slice_index numbers y ≤ slice_index numbers x)
  pub same : (x y : ℕ) → node_at nodes x ≡ Settled → node_at nodes y ≡ Settled → (slice_index numbers x ≡ slice_index numbers y) ↔ AreTogether graph x y
  pub below : (x : ℕ) → node_at nodes x ≡ Settled → slice_index numbers x < count
  pub dense : (k : ℕ) → k < count → (x : ℕ) × (node_at nodes x ≡ Settled) × (slice_index numbers x ≡ k)

-- the place p is of the group of the place q, or of an earlier one
abbrev pub Precedes : List Group → ℕ → ℕ → Type 0
Precedes groups p q = (k : ℕ) → k < length groups → (group_at groups k).node ≤ p → (group_at groups k).node ≤ q

-- of the group of the place p or a later one is the target i
abbrev pub PrecedesTarget : List Group → ℕ → ℕ → Type 0
PrecedesTarget groups p i = (k : ℕ) → k < length groups → (group_at groups k).node ≤ p → (group_at groups k).target ≤ i

-- what became of the target y of an edge from the place p
pub data IsFollowed (s : State) (p y : ℕ) : Type 0 where
  to_settled : node_at s.nodes y ≡ Settled → IsFollowed s p y
  to_path : (q : ℕ) → q < length s.path → slice_index s.path q ≡ y → Precedes s.groups p q → IsFollowed s p y
  to_target : (i : ℕ) → i < length s.targets → slice_index s.targets i ≡ y → PrecedesTarget s.groups p i → IsFollowed s p y

-- what is true of a search between its steps
pub record IsSearch (graph : List (List ℕ)) (s : State) : Type 0 where
  pub few : length graph < 2 ^ 32
  pub all_nodes : length s.nodes ≡ length graph
  pub all_numbers : length s.numbers ≡ length graph
  pub room : s.count + length s.path + new_nodes s.nodes ≤ length graph
  pub inside : All (λ y. y < length graph) s.targets
  pub is_path : IsPath s.nodes s.path
  pub are_groups : AreGroups s.path s.groups s.targets
  pub are_settled : AreSettled graph s.nodes s.numbers s.count
  -- a place reaches those of its group and of later ones
  pub along : (p q : ℕ) → p < length s.path → q < length s.path → Precedes s.groups p q → Reaches graph (slice_index s.path p) (slice_index s.path q)
  -- a group reaches its targets, and those of later groups
  pub ahead : (k i : ℕ) → k < length s.groups → (group_at s.groups k).target ≤ i → i < length s.targets
      → Reaches graph (slice_index s.path (group_at s.groups k).node) (slice_index s.targets i)
  -- no edge of an open node is forgotten
  pub followed : (p y : ℕ) → p < length s.path → IsEdge graph (slice_index s.path p) y → IsFollowed s p y

-- ---- steps

-- nodes that aren't new stay so
abbrev pub KeepsKnown : List Node → List Node → Type 0
KeepsKnown old new = (x : ℕ) → node_at old x ≢ New → node_at new x ≢ New

-- nodes that aren't new stay so, and less is left to do
pub record Advances (graph : List (List ℕ)) (old new : State) : Type 0 where
  pub known : KeepsKnown old.nodes new.nodes
  pub less : work_left graph new < work_left graph old

-- those groups are left that begin at or before the place q
pub record AreJoined (q : ℕ) (old new : List Group) : Type 0 where
  pub fewer : length new ≤ length old
  pub same : (k : ℕ) → k < length new → group_at new k ≡ group_at old k
  pub gone : (k : ℕ) → length new ≤ k → k < length old → q < (group_at old k).node

-- the nodes at the places from `start` on and before `end` are settled with the number `count`, and nothing else is changed
pub record IsMarked (path : List ℕ) (start end count : ℕ) (old new : List Node) (old_numbers new_numbers : List ℕ) : Type 0 where
  pub all_nodes : length new ≡ length old
  pub all_numbers : length new_numbers ≡ length old_numbers
  pub known : KeepsKnown old new
  pub new_same : (weight : ℕ → ℕ) → sum_of_new weight new ≡ sum_of_new weight old
  pub settled : (p : ℕ) → start ≤ p → p < end → (node_at new (slice_index path p) ≡ Settled) × (slice_index new_numbers (slice_index path p) ≡ count)
  pub kept : (x : ℕ) → ((p : ℕ) → start ≤ p → p < end → slice_index path p ≢ x) → (node_at new x ≡ node_at old x) × (slice_index new_numbers x ≡ slice_index old_numbers x)
