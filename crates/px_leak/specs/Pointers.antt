-- Which variables lead to which, as edges of a graph.
use Rattle.std.specs.Prelude.{◌≡◌, ◌⊎◌, ◌↔◌, ℕ, suc, ◌<◌, List, Contains, length}
use Rattle.px_components.specs.Graphs.{IsEdge}
use Rattle.px_entry.specs.declared.atoms.Atom.{Atom}
use Rattle.px_entry.specs.declared.entries.Entry.{Entry}
use Rattle.px_leak.specs.Reached.{pointed_by_result, pointed_by_atom}

-- a cell of one of these atoms, whose place is one of the first n variables, points from one of these to another
abbrev pub PointsAmong : ℕ → List Atom → ℕ → ℕ → Type 0
PointsAmong n atoms y z = (a : Atom) × Contains atoms a × (a.place.0 ≡ y) × (y < n) × Contains (pointed_by_atom n a) z

-- the edges of `old`, and those of the cells of atoms
pub record GainsCells (n : ℕ) (old : List (List ℕ)) (atoms : List Atom) (new : List (List ℕ)) : Type 0 where
  pub size : length new ≡ length old
  pub edges : (y z : ℕ) → IsEdge new y z ↔ (IsEdge old y z ⊎ PointsAmong n atoms y z)

-- the edges of `old`, and one from each of the first k nodes to the node r
pub record GainsBack (k r : ℕ) (old new : List (List ℕ)) : Type 0 where
  pub size : length new ≡ length old
  pub edges : (y z : ℕ) → IsEdge new y z ↔ (IsEdge old y z ⊎ ((y < k) × (z ≡ r)))

-- The variables of an entry are nodes, and one more stands for its result. An edge leads from the result, and from each variable
-- by the cells of its block; and one from each variable back to the result.
abbrev pub IsPointer : Entry → ℕ → ℕ → Type 0
IsPointer x y z =
    ((y ≡ length x.vars) × Contains (pointed_by_result (length x.vars) x.result) z) ⊎ (PointsAmong (length x.vars) x.post y z ⊎ ((y < length x.vars) × (z ≡ length x.vars)))

pub record HasPointers (x : Entry) (graph : List (List ℕ)) : Type 0 where
  pub size : length graph ≡ suc (length x.vars)
  pub edges : (y z : ℕ) → IsEdge graph y z ↔ IsPointer x y z
