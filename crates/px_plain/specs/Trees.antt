-- Trees of nodes whose values differ by constants, modulo 2^32: each root may come below another, and be taken back.
use Rattle.std.specs.Prelude.{◌≡◌, ◌≢◌, ℕ, ◌+◌, ◌-◌, ◌%◌, ◌^◌, ◌<◌, ◌⊎◌, List, length, max, slice_index_or, slice_set}
use Rattle.px_plain.specs.declared.nodes.Difference.{Difference}
use Rattle.px_plain.specs.declared.trees.Tree.{Tree}
use Rattle.px_plain.specs.declared.trees.Link.{Link}
use Rattle.px_plain.specs.declared.trees.Joining.{Joining}
use Rattle.px_plain.specs.declared.trees.Joining.TheVariants.{Clash, Held, By}
use Rattle.px_plain.specs.Forest.{IsAbove}
use Rattle.px_plain.specs.Differences.{difference_at}

abbrev pub tree_at : List Tree → ℕ → Tree
tree_at t v = slice_index_or t v (record { parent = 0; offset = 0; rank = 0 })

abbrev pub parent_at : List Tree → ℕ → ℕ
parent_at t v = (tree_at t v).parent

abbrev pub offset_at : List Tree → ℕ → ℕ
offset_at t v = (tree_at t v).offset

abbrev pub rank_at : List Tree → ℕ → ℕ
rank_at t v = (tree_at t v).rank

-- a parent has a higher rank, and a root is 0 above itself
pub record IsRanked (t : List Tree) : Type 0 where
  pub inside : (v : ℕ) → v < length t → parent_at t v < length t
  pub rising : (v : ℕ) → v < length t → parent_at t v ≢ v → rank_at t v < rank_at t (parent_at t v)
  pub bare : (v : ℕ) → v < length t → parent_at t v ≡ v → offset_at t v ≡ 0
  pub low : (v : ℕ) → v < length t → rank_at t v < 2 ^ 32

-- the root of each node, and how far the node is above it
pub record Flat (t : List Tree) : Type 0 where
  pub root : ℕ → ℕ
  pub above : ℕ → ℕ
  pub inside : (v : ℕ) → v < length t → root v < length t
  pub is_root : (v : ℕ) → v < length t → parent_at t (root v) ≡ root v
  pub small : (v : ℕ) → v < length t → above v < 2 ^ 32
  pub here : (v : ℕ) → v < length t → parent_at t v ≡ v → root v ≡ v
  pub level : (v : ℕ) → v < length t → parent_at t v ≡ v → above v ≡ 0
  pub up : (v : ℕ) → v < length t → root v ≡ root (parent_at t v)
  pub far : (v : ℕ) → v < length t → parent_at t v ≢ v → above v ≡ (above (parent_at t v) + offset_at t v) % 2 ^ 32

-- with these values each node is as far above its root as the trees say
abbrev pub KeepsFlat : {t : List Tree} → (ℕ → ℕ) → Flat t → Type 0
KeepsFlat {t = t} w f = (v : ℕ) → v < length t → IsAbove w v (f.root v) (f.above v)

-- ---- a root below another

-- two roots, and the rank of the second
pub record IsLink (t : List Tree) (l : Link) : Type 0 where
  pub root_inside : l.root < length t
  pub parent_inside : l.parent < length t
  pub root : parent_at t l.root ≡ l.root
  pub parent : parent_at t l.parent ≡ l.parent
  pub two : l.root ≢ l.parent
  pub rank : l.rank ≡ rank_at t l.parent
  pub small : l.offset < 2 ^ 32

abbrev pub with_parent : List Tree → ℕ → ℕ → ℕ → List Tree
with_parent t v parent offset = slice_set t v (record { parent = parent; offset = offset; rank = rank_at t v })

abbrev pub with_rank : List Tree → ℕ → ℕ → List Tree
with_rank t v rank = slice_set t v (record { parent = parent_at t v; offset = offset_at t v; rank = rank })

-- the root is below the parent
abbrev pub linked : List Tree → Link → List Tree
linked t l =
    let u = with_parent t l.root l.parent l.offset in
    with_rank u l.parent (max (rank_at u l.parent) (rank_at t l.root + 1))

-- the root is a root again, and the parent has its former rank
abbrev pub unlinked : List Tree → Link → List Tree
unlinked t l =
    let u = with_rank t l.parent l.rank in
    with_parent u l.root l.root 0

-- ---- differences

-- the difference holds since its ends have one root
abbrev pub AreOne : {t : List Tree} → Flat t → Difference → Type 0
AreOne f d = (f.root d.from ≡ f.root d.to) × ((f.above d.from + d.plus) % 2 ^ 32 ≡ f.above d.to)

-- one of the differences holds so
pub record IsSomeOne (t : List Tree) (ds : List Difference) : Type 0 where
  pub at : ℕ
  pub inside : at < length ds
  pub one : (f : Flat t) → AreOne f (difference_at ds at)

-- none does
abbrev pub AreApart : List Tree → List Difference → Type 0
AreApart t ds = (j : ℕ) → j < length ds → (f : Flat t) → ¬ AreOne f (difference_at ds j)

-- where the root is as far above the parent as the link says, the difference holds
abbrev pub Ties : {t : List Tree} → Flat t → Difference → Link → Type 0
Ties f d l =
    ((l.parent ≡ f.root d.from) × (l.root ≡ f.root d.to) × (l.offset ≡ ((f.above d.from + d.plus) % 2 ^ 32 + (2 ^ 32 - f.above d.to)) % 2 ^ 32))
    ⊎ ((l.root ≡ f.root d.from) × (l.parent ≡ f.root d.to) × (l.offset ≡ (f.above d.to + (2 ^ 32 - (f.above d.from + d.plus) % 2 ^ 32)) % 2 ^ 32))

-- what an equality asks
abbrev pub Joined : List Tree → Difference → Joining → Type 0
Joined t d Clash = (f : Flat t) → (f.root d.from ≡ f.root d.to) × ((f.above d.from + d.plus) % 2 ^ 32 ≢ f.above d.to)
Joined t d Held = (f : Flat t) → AreOne f d
Joined t d (By l) = IsLink t l × ((f : Flat t) → Ties f d l)
