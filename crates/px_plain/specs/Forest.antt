-- Forests of nodes whose values differ by constants, modulo 2^32.
use Rattle.std.specs.Prelude.{◌≡◌, ℕ, ◌+◌, ◌%◌, ◌^◌, ◌<◌, ◌≤◌, List, length, slice_index_or}
use Rattle.px_plain.specs.declared.nodes.Node.{Node}

abbrev pub node_at : List Node → ℕ → Node
node_at t v = slice_index_or t v (record { parent = 0; offset = 0 })

abbrev pub parent_at : List Node → ℕ → ℕ
parent_at t v = (node_at t v).parent

-- the value of v is c above that of r, modulo 2^32
abbrev pub IsAbove : (ℕ → ℕ) → ℕ → ℕ → ℕ → Type 0
IsAbove val v r c = val v % 2 ^ 32 ≡ (val r + c) % 2 ^ 32

-- a parent is a lower node or the node itself, which is then a root, and 0 above itself
pub record IsForest (t : List Node) : Type 0 where
  pub lower : (v : ℕ) → v < length t → parent_at t v ≤ v
  pub bare : (v : ℕ) → v < length t → parent_at t v ≡ v → (node_at t v).offset ≡ 0

-- with these values each node is as far above its parent as the forest says
pub record Keeps (val : ℕ → ℕ) (t : List Node) : Type 0 where
  pub each : (v : ℕ) → v < length t → IsAbove val v (parent_at t v) (node_at t v).offset

-- both forests keep the same values
pub record SameSolutions (t u : List Node) : Type 0 where
  pub there : (val : ℕ → ℕ) → Keeps val t → Keeps val u
  pub back : (val : ℕ → ℕ) → Keeps val u → Keeps val t

-- what was a root is one
pub record RootsStay (t u : List Node) : Type 0 where
  pub stays : (r : ℕ) → r < length t → parent_at t r ≡ r → parent_at u r ≡ r

-- each parent is a root
pub record IsFlat (t : List Node) : Type 0 where
  pub root : (v : ℕ) → v < length t → parent_at t (parent_at t v) ≡ parent_at t v
