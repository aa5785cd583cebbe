-- Blocks that the path hasn't met, known before the way is taken that meets them.
use Rattle.std.specs.Prelude.{◌≡◌, ℕ, true, false, List, [], ◌∷◌, ◌++◌, length, Option, Some, None}
use Rattle.px_terms.specs.declared.types.TypeId.{TypeId}
use Rattle.px_terms.specs.declared.types.BlockType.{BlockType}
use Rattle.px_terms.specs.declared.types.ValueType.TheVariants.{Pointer}
use Rattle.px_terms.specs.declared.variables.Var.{Var}
use Rattle.px_terms.specs.declared.variables.VarInfo.{VarInfo}
use Rattle.px_terms.specs.declared.conjuncts.Place.TheVariants as place
use Rattle.px_core.specs.declared.command.Operand.{Operand}
use Rattle.px_entry.specs.declared.atoms.Atom.{Atom}
use Rattle.px_entry.specs.declared.atoms.AtomState.{AtomState}
use Rattle.px_entry.specs.declared.atoms.AtomState.TheVariants.{Freed}
use Rattle.px_entry.specs.Sorts.{is_made, has_type}
use Rattle.px_callgraph.specs.declared.states.State.{State}
use Rattle.px_callgraph.specs.declared.states.Way.{Way}
use Rattle.px_callgraph.specs.declared.states.Way.TheVariants as way
use Rattle.px_callgraph.specs.JobTree.{JobTree}
use Rattle.px_callgraph.specs.States.{operand_content}
use Rattle.px_callgraph.specs.Accesses.{accessed, block_cells}
use Rattle.px_callgraph.specs.Alternatives.{Walk, act}
use Rattle.px_callgraph.specs.ActsLeft.{state_of}
use Rattle.px_match.specs.declared.path_limits.Growth.{Growth}
use Rattle.px_match.specs.PathLimits.{passes_grown}
use Rattle.px_explore.specs.declared.missed.Missed.{Missed}

-- the block, in a state
abbrev pub block_at : Missed → AtomState → Atom
block_at m state = record { place = m.place; block = m.block; state = state }

-- a state that has met it
abbrev pub with_block : State → Missed → State
with_block s m = record s { atoms = s.atoms ++ block_at m Freed ∷ [] }

-- its place is that of a pointer to blocks of its type, and isn't made
pub record MayBeMet (s : State) (m : Missed) : Type 0 where
  pub placed : has_type s.vars (Pointer m.block) m.place.0 ≡ true
  pub found : is_made s.vars m.place.0 ≡ false

-- where the way leads, the block is met; variables may be new there, and nothing more is assumed
pub record Meets (j : JobTree) (w : Walk) (name : Way) (m : Missed) : Type 0 where
  pub vars : (more : List VarInfo) × ((state_of (act j w name)).vars ≡ w.state.vars ++ more)
  pub pure : (state_of (act j w name)).pure ≡ w.state.pure
  pub atoms : (state : AtomState) × ((state_of (act j w name)).atoms ≡ w.state.atoms ++ block_at m state ∷ [])
  pub may_be : MayBeMet w.state m

-- how many cells are new by a way to a block that wasn't met
abbrev pub cells_met : List BlockType → TypeId → Way → Option ℕ
cells_met types block way.MissingLive = Some (length (block_cells types block))
cells_met types block way.MissingFreed = Some 0
cells_met types block _ = None

-- a command with one mark that meets a block with so many new cells
abbrev pub meeting : ℕ → Growth
meeting cells = record { marks = 1; commands = 1; conjuncts = 0; atoms = 1; variables = cells; long_term = false }

-- an access goes through this variable
abbrev pub IsThrough : State → TypeId → Operand → Var → Type 0
IsThrough s block at x = accessed s.vars block (operand_content s at) ≡ Some (place.Var x)

pub record IsMissed (types : List BlockType) (s : State) (block : TypeId) (at : Operand) (name : Way) (m : Missed) : Type 0 where
  pub cells : ℕ
  pub cells_are : cells_met types block name ≡ Some cells
  pub through : IsThrough s block at m.place
  pub found : is_made s.vars m.place.0 ≡ false
  pub room : passes_grown s (meeting cells) ≡ None
  pub block_is : m.block ≡ block
