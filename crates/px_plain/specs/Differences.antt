-- Differences between the values of two nodes, which hold or don't.
use Rattle.std.specs.Prelude.{◌≡◌, ℕ, ◌<◌, List, length, slice_index_or, true, false}
use Rattle.px_plain.specs.declared.nodes.Difference.{Difference}
use Rattle.px_plain.specs.declared.nodes.Node.{Node}
use Rattle.px_plain.specs.Forest.{IsAbove, IsForest, IsFlat, Keeps}

abbrev pub difference_at : List Difference → ℕ → Difference
difference_at ds i = slice_index_or ds i (record { from = 0; to = 0; plus = 0; equal = false })

-- where it is an equality, it holds
abbrev pub IfEqual : (ℕ → ℕ) → Difference → Type 0
IfEqual val d = d.equal ≡ true → IsAbove val d.to d.from d.plus

-- where it is a disequality, it holds
abbrev pub IfUnequal : (ℕ → ℕ) → Difference → Type 0
IfUnequal val d = d.equal ≡ false → ¬ IsAbove val d.to d.from d.plus

-- all equalities hold
abbrev pub AllEqual : (ℕ → ℕ) → List Difference → Type 0
AllEqual val ds = (i : ℕ) → i < length ds → IfEqual val (difference_at ds i)

-- all differences hold
pub record AllHold (val : ℕ → ℕ) (ds : List Difference) : Type 0 where
  pub equal : (i : ℕ) → i < length ds → IfEqual val (difference_at ds i)
  pub unequal : (i : ℕ) → i < length ds → IfUnequal val (difference_at ds i)

-- each node is below n
pub record AreInside (n : ℕ) (ds : List Difference) : Type 0 where
  pub from : (i : ℕ) → i < length ds → (difference_at ds i).from < n
  pub to : (i : ℕ) → i < length ds → (difference_at ds i).to < n

-- each is a difference of 0
abbrev pub AreBare : List Difference → Type 0
AreBare ds = (i : ℕ) → i < length ds → (difference_at ds i).plus ≡ 0

-- a flat forest that keeps the values under which all equalities hold, and no others
pub record IsForestOf (ds : List Difference) (t : List Node) : Type 0 where
  pub forest : IsForest t
  pub flat : IsFlat t
  pub there : (val : ℕ → ℕ) → AllEqual val ds → Keeps val t
  pub back : (val : ℕ → ℕ) → Keeps val t → AllEqual val ds
