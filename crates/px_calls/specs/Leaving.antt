-- How an entry leaves blocks.
use Rattle.std.specs.Prelude.{◌≡◌, ℕ, Bool, true, false, List, [], ◌∷◌, length, map, flat_map, Option, Some, None}
use Rattle.std.specs.List.{list_any}
use Rattle.px_terms.specs.declared.types.TypeId.{TypeId}
use Rattle.px_terms.specs.declared.variables.VarInfo.{VarInfo}
use Rattle.px_terms.specs.declared.conjuncts.Place.{Place}
use Rattle.px_terms.specs.declared.conjuncts.Place.TheVariants as place
use Rattle.px_entry.specs.declared.atoms.Atom.{Atom}
use Rattle.px_entry.specs.declared.atoms.AtomState.{AtomState}
use Rattle.px_entry.specs.declared.atoms.AtomState.TheVariants.{Freed}
use Rattle.px_entry.specs.Sorts.{is_long}
use Rattle.px_entry.specs.Constraint.{found_atoms, made_atoms}
use Rattle.px_callgraph.specs.Accesses.{set_atom, atom_of}
use Rattle.px_callgraph.specs.Renaming.{Substitution, state_through, state_terms}
use Rattle.px_callgraph.specs.Calls.{made_through}
use Rattle.px_calls.specs.declared.leaving.Left.{Left}

-- a state that is too long isn't there
abbrev pub is_lacking : Option AtomState → Bool
is_lacking None = true
is_lacking (Some s) = false

abbrev pub state_or_freed : Option AtomState → AtomState
state_or_freed None = Freed
state_or_freed (Some s) = s

-- a block that the callee made, where its place is one of the caller
abbrev pub made_at : Option Place → TypeId → AtomState → List Atom
made_at None block state = []
made_at (Some place.Null) block state = []
made_at (Some (place.Var v)) block state = atom_of v block state ∷ []

-- the atoms with these numbers get these states, in order
abbrev pub update_states : List ℕ → List AtomState → List Atom → List Atom
update_states [] states atoms = atoms
update_states (n ∷ used) [] atoms = atoms
update_states (n ∷ used) (s ∷ states) atoms = update_states used states (set_atom n s atoms)

-- how an entry with these variables leaves blocks; where no polynomial is too long, it is just that
pub record IsLeft (vars : List VarInfo) (σ : Substitution) (atoms : List Atom) (left : Left) : Type 0 where
  pub long_one : left.long ≡ list_any is_long (flat_map (λ (a : Atom). state_terms σ a.state) atoms)
  pub found : left.long ≡ false → left.found.items ≡ map (λ (a : Atom). state_through σ a.state) (found_atoms vars atoms)
  pub made : left.long ≡ false → left.made ≡ flat_map (made_through σ) (made_atoms vars atoms)
  pub count : length left.made ≡ length (flat_map (made_through σ) (made_atoms vars atoms))
