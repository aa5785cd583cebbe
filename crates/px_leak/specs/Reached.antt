-- Which variables of an entry its result leads to, through the cells of blocks.
use Rattle.std.specs.Prelude.{ℕ, zero, suc, ◌||◌, ◌&&◌, Bool, nat_eq, nat_lt, List, [], Contains, filter, flat_map, length, Option, Some, None}
use Rattle.std.specs.List.{list_any}
use Rattle.px_terms.specs.Variables.{place_variables}
use Rattle.px_terms.specs.declared.conjuncts.Content.{Content}
use Rattle.px_terms.specs.declared.conjuncts.Content.TheVariants.{Unwritten, Word, Place, Cell}
use Rattle.px_entry.specs.declared.atoms.Atom.{Atom}
use Rattle.px_entry.specs.declared.entries.Entry.{Entry}
use Rattle.px_entry.specs.Regular.{state_cells}

-- those of the first n variables
abbrev pub within : ℕ → List ℕ → List ℕ
within n xs = filter (λ x. nat_lt x n) xs

-- the variable, of the first n, that a content points by
abbrev pub pointed : ℕ → Content → List ℕ
pointed n Unwritten = []
pointed n (Word p) = []
pointed n (Place a) = within n (place_variables a)
pointed n (Cell x) = []

abbrev pub pointed_by_result : ℕ → Option Content → List ℕ
pointed_by_result n None = []
pointed_by_result n (Some c) = pointed n c

-- those by which the cells of an atom point; a freed one has none
abbrev pub pointed_by_atom : ℕ → Atom → List ℕ
pointed_by_atom n a = flat_map (pointed n) (state_cells a.state)

-- The least such set: these roots are reached, and what a cell of a live one of these atoms points by whose place is reached.
pub data IsReachedFrom (n : ℕ) (roots : List ℕ) (atoms : List Atom) : ℕ → Type 0 where
  root : {y : ℕ} → Contains roots y → IsReachedFrom n roots atoms y
  cell : {y : ℕ} → (a : Atom) → Contains atoms a → IsReachedFrom n roots atoms a.place.0 → Contains (pointed_by_atom n a) y → IsReachedFrom n roots atoms y

-- what an entry's result reaches through the blocks that it leaves
abbrev pub IsReached : Entry → ℕ → Type 0
IsReached x = IsReachedFrom (length x.vars) (pointed_by_result (length x.vars) x.result) x.post

-- ---- the same as a test

-- one of these atoms has such a place, and a cell that points by this variable
abbrev pub points_from : ℕ → (ℕ → Bool) → List Atom → ℕ → Bool
points_from n reached atoms y = list_any (λ (a : Atom). reached a.place.0 && list_any (nat_eq y) (pointed_by_atom n a)) atoms

-- reached through at most so many atoms
abbrev pub reached_through : ℕ → List ℕ → List Atom → ℕ → ℕ → Bool
reached_through n roots atoms zero y = list_any (nat_eq y) roots
reached_through n roots atoms (suc k) y = reached_through n roots atoms k y || points_from n (reached_through n roots atoms k) atoms y

-- as many as there are are enough
abbrev pub is_reached : Entry → ℕ → Bool
is_reached x y = reached_through (length x.vars) (pointed_by_result (length x.vars) x.result) x.post (length x.post) y
