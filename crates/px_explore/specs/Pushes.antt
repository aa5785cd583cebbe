-- When more of a state may be put on.
use Rattle.std.specs.Prelude.{◌≡◌, ℕ, ◌+◌, ◌<◌, ◌≤◌, false, List, All, length, take}
use Rattle.px_terms.specs.Conjuncts.{IsWellSorted, IsPointerVariable}
use Rattle.px_terms.specs.declared.variables.VarInfo.{VarInfo}
use Rattle.px_terms.specs.declared.conjuncts.Conj.{Conj}
use Rattle.px_plain.specs.Held.{HeldItem, held_vars, held_count}
use Rattle.px_entry.specs.declared.atoms.Atom.{Atom}
use Rattle.px_entry.specs.Sorts.{is_made}
use Rattle.px_explore.specs.declared.trail.Trail.{Trail}
use Rattle.px_explore.specs.Trails.{IsStacked, IsOn, conjuncts_in, places_in, found_places}

-- the variables before a number are held, and there are few
pub record TakesVars (t : Trail) (vars : List VarInfo) (from : ℕ) : Type 0 where
  pub items : List HeldItem
  pub stacked : IsStacked t items
  pub vars_are : held_vars items ≡ take from vars
  pub few : length vars ≤ 65536

-- the conjuncts before a number are held, all are well sorted over the variables that are held, and there are few
pub record TakesConjuncts (t : Trail) (domains : List Conj → Type 0) (pure : List Conj) (from : ℕ) : Type 0 where
  pub items : List HeldItem
  pub on : IsOn t domains items
  pub pure_is : conjuncts_in items ≡ take from pure
  pub sorted : All (IsWellSorted (held_vars items)) pure
  pub few_vars : length (held_vars items) ≤ 65536
  pub few : length pure + length (places_in items) ≤ 65536

-- where the block isn't made, its place is a pointer, and few items are held
pub record TakesPlace (t : Trail) (vars : List VarInfo) (a : Atom) : Type 0 where
  pub items : List HeldItem
  pub stacked : IsStacked t items
  pub found : is_made vars a.place.0 ≡ false → IsPointerVariable (held_vars items) a.place.0 × (held_count items < 65536)

-- the variables are held, and the places of the blocks before a number, but of those that are made; those of the others
-- are pointers, and there are few
pub record TakesPlaces (t : Trail) (vars : List VarInfo) (atoms : List Atom) (from : ℕ) : Type 0 where
  pub items : List HeldItem
  pub stacked : IsStacked t items
  pub vars_are : held_vars items ≡ vars
  pub places_are : places_in items ≡ found_places vars (take from atoms)
  pub pointers : All (λ (a : Atom). is_made vars a.place.0 ≡ false → IsPointerVariable vars a.place.0) atoms
  pub few : length (conjuncts_in items) + length (found_places vars atoms) ≤ 65536
