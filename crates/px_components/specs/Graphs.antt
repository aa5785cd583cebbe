-- Directed graphs as adjacency lists: for each node, by its number, the targets of its edges.
use Rattle.std.specs.Prelude.{◌≡◌, ◌↔◌, ℕ, ◌<◌, ◌≤◌, List, [], length, Contains, slice_index, slice_index_or}

-- an edge leads from x to y
abbrev pub IsEdge : List (List ℕ) → ℕ → ℕ → Type 0
IsEdge graph x y = Contains (slice_index_or graph x []) y

-- y is reached from x along edges, or is x
pub data Reaches (graph : List (List ℕ)) : ℕ → ℕ → Type 0 where
  stays : {x : ℕ} → Reaches graph x x
  steps : {x y z : ℕ} → IsEdge graph x y → Reaches graph y z → Reaches graph x z

-- each reaches the other
abbrev pub AreTogether : List (List ℕ) → ℕ → ℕ → Type 0
AreTogether graph x y = Reaches graph x y × Reaches graph y x

-- each edge leads to a node of the graph
abbrev pub IsGraph : List (List ℕ) → Type 0
IsGraph graph = (x y : ℕ) → IsEdge graph x y → y < length graph

-- each node has the number of its component, and there are `count` components
pub record AreComponents (graph : List (List ℕ)) (numbers : List ℕ) (count : ℕ) : Type 0 where
  -- each node has a number
  pub numbered : length numbers ≡ length graph
  -- two nodes have the same number exactly where each reaches the other
  pub same : (x y : ℕ) → x < length graph → y < length graph → (slice_index numbers x ≡ slice_index numbers y) ↔ AreTogether graph x y
  -- the numbers are those below `count`, and each is some node's
  pub dense : (k : ℕ) → (k < count) ↔ ((x : ℕ) × (x < length graph) × (slice_index numbers x ≡ k))
  -- each edge leads to the same number or a lower one
  pub falls : (x y : ℕ) → IsEdge graph x y → slice_index numbers y ≤ slice_index numbers x
