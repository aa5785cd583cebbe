-- How the call graph is made, from numbered components.
use Rattle.std.specs.Prelude.{◌≡◌, ◌≢◌, ◌↔◌, ◌⊎◌, ℕ, ◌<◌, ◌≤◌, List, [], AllPairs, Bool, true, false, Contains, length, map, Option, slice_index, slice_index_or}
use Rattle.px_base.specs.declared.trace.ProcId.{ProcId}
use Rattle.px_core.specs.BodyTree.{BodyTree}
use Rattle.px_components.specs.Graphs.{IsEdge}
use Rattle.px_callgraph.specs.Callees.{NamedIn, AreTogether}
use Rattle.px_callgraph.specs.CallGraphs.{IsGraphOf}
use Rattle.px_callgraph.specs.Ranks.{AreRanks}

abbrev pub numbers_of : List ProcId → List ℕ
numbers_of = map (λ p. p.0)

-- ---- edges

-- the edges of `old`, and those from x to these
pub record Gains (old : List (List ℕ)) (x : ℕ) (ys : List ℕ) (new : List (List ℕ)) : Type 0 where
  pub size : length new ≡ length old
  pub edges : (a b : ℕ) → IsEdge new a b ↔ (IsEdge old a b ⊎ ((a ≡ x) × Contains ys b))

-- the edges of `old`, and those from a procedure to what its body calls
pub record GainsCalls (old : List (List ℕ)) (f : ℕ) (body : BodyTree) (new : List (List ℕ)) : Type 0 where
  pub size : length new ≡ length old
  pub edges : (a b : ℕ) → IsEdge new a b ↔ (IsEdge old a b ⊎ ((a ≡ f) × NamedIn b body.commands))

-- the edges of `old`, and those from each of these to y
pub record GainsFrom (old : List (List ℕ)) (xs : List ℕ) (y : ℕ) (new : List (List ℕ)) : Type 0 where
  pub size : length new ≡ length old
  pub edges : (a b : ℕ) → IsEdge new a b ↔ (IsEdge old a b ⊎ (Contains xs a × (b ≡ y)))

-- numbers that rise, none of them above n
pub record RisesTo (n : ℕ) (ys : List ℕ) : Type 0 where
  pub rising : AllPairs (λ a b. a < b) ys
  pub most : (k : ℕ) → k < length ys → slice_index ys k ≤ n

-- each node's targets rise to n at most
abbrev pub AllRiseTo : ℕ → List (List ℕ) → Type 0
AllRiseTo n graph = (x : ℕ) → RisesTo n (slice_index_or graph x [])

-- ---- ranks, by the numbers of components

-- y is one of these, it is kept, and in another component than x
pub record IsOutside (numbers : List ℕ) (kept x : ℕ) (ys : List ℕ) (y : ℕ) : Type 0 where
  pub target : Contains ys y
  pub is_kept : y < kept
  pub apart : slice_index numbers y ≢ slice_index numbers x

-- n is the least number above the ranks of those
pub record IsAboveOf (numbers : List ℕ) (kept : ℕ) (ranks : List ℕ) (x : ℕ) (ys : List ℕ) (n : ℕ) : Type 0 where
  pub above : (y : ℕ) → IsOutside numbers kept x ys y → slice_index ranks y < n
  pub least : (m : ℕ) → ((y : ℕ) → IsOutside numbers kept x ys y → slice_index ranks y < m) → n ≤ m

-- n is the rank of the node, by those of its targets
abbrev pub IsAbove : List (List ℕ) → List ℕ → ℕ → List ℕ → ℕ → ℕ → Type 0
IsAbove graph numbers kept ranks x n = IsAboveOf numbers kept ranks x (slice_index_or graph x []) n

-- the node has its rank
abbrev pub IsRanked : List (List ℕ) → List ℕ → ℕ → List ℕ → ℕ → Type 0
IsRanked graph numbers kept ranks x = IsAbove graph numbers kept ranks x (slice_index ranks x)

-- no rank is above the number of its component
abbrev pub AreLow : List ℕ → List ℕ → Type 0
AreLow numbers ranks = (x : ℕ) → slice_index ranks x ≤ slice_index numbers x

-- ---- what a call graph keeps

-- some edge of the node leads to its own component
abbrev pub IsOnCycle : List (List ℕ) → List ℕ → ℕ → Type 0
IsOnCycle graph numbers x = (y : ℕ) × IsEdge graph x y × (slice_index numbers y ≡ slice_index numbers x)

-- the numbers of components, which nodes are on a cycle, and the ranks, of whatever bodies the graph is
pub record IsKnown (graph : List (List ℕ)) (numbers : List ℕ) (cycles : List Bool) (ranks : List ℕ) : Type 0 where
  pub all_numbers : length graph ≤ length numbers
  pub all_cycles : length graph ≤ length cycles
  pub all_ranks : length graph ≤ length ranks
  pub together : (bodies : ℕ → Option BodyTree) → IsGraphOf bodies graph → (a b : ℕ) → a < length graph → b < length graph
      → AreTogether bodies a b ↔ ((slice_index numbers a ≡ slice_index numbers b) × (slice_index_or cycles a false ≡ true))
  pub are_ranks : (bodies : ℕ → Option BodyTree) → IsGraphOf bodies graph → AreRanks bodies (length graph) (λ x. slice_index ranks x)
