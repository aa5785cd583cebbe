-- What is known of the blocks of a state.
use Rattle.std.specs.Prelude.{ℕ, List, Option, option_map, slice_get}
use Rattle.px_entry.specs.declared.atoms.Atom.{Atom}
use Rattle.px_entry.specs.declared.atoms.AtomState.{AtomState}

-- what is known of the block of the atom with a number
abbrev pub state_at : List Atom → ℕ → Option AtomState
state_at atoms n = option_map (λ (a : Atom). a.state) (slice_get atoms n)
