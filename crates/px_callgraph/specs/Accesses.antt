-- Accesses: what a pointer may lead to, and what a command does with it.
use Rattle.std.specs.Prelude.{ℕ, zero, suc, ◌&&◌, Bool, true, false, nat_eq, List, [], ◌∷◌, ◌++◌, length, map, Option, Some, None, slice_get, slice_set}
use Rattle.px_base.specs.declared.trace.Site.{Site}
use Rattle.px_base.specs.declared.trace.MarkKind.TheVariants as mark
use Rattle.px_base.specs.declared.trace.Kind.TheVariants.{NullDereference, UseAfterFree, DoubleFree}
use Rattle.px_terms.specs.Types.{types_of}
use Rattle.px_terms.specs.declared.types.TypeId.{TypeId}
use Rattle.px_terms.specs.declared.types.BlockType.{BlockType}
use Rattle.px_terms.specs.declared.types.ValueType.{ValueType}
use Rattle.px_terms.specs.declared.variables.Var.{Var}
use Rattle.px_terms.specs.declared.variables.VarInfo.{VarInfo}
use Rattle.px_terms.specs.declared.variables.Sort.TheVariants as sort
use Rattle.px_terms.specs.declared.conjuncts.Place.{Place as PlaceOf}
use Rattle.px_terms.specs.declared.conjuncts.Place.TheVariants as place
use Rattle.px_terms.specs.declared.conjuncts.Content.{Content}
use Rattle.px_terms.specs.declared.conjuncts.Content.TheVariants.{Unwritten, Word, Place, Cell}
use Rattle.px_terms.specs.declared.conjuncts.Conj.TheVariants.{SamePlace}
use Rattle.px_entry.specs.declared.atoms.Atom.{Atom}
use Rattle.px_entry.specs.declared.atoms.AtomState.{AtomState}
use Rattle.px_entry.specs.declared.atoms.AtomState.TheVariants.{Live, Freed}
use Rattle.px_entry.specs.Sorts.{is_place_of}
use Rattle.px_entry.specs.Decided.{is_open}
use Rattle.px_entry.specs.Cases.{may_be_at, may_be_missing, numbers_of}
use Rattle.px_callgraph.specs.declared.states.State.{State}
use Rattle.px_callgraph.specs.declared.states.Way.{Way}
use Rattle.px_callgraph.specs.declared.states.Way.TheVariants as way
use Rattle.px_callgraph.specs.States.{Done, on, fails, set_slot, content_at, marked, assumed, info, with_variables, met}

-- ---- ways

abbrev pub listed_if : Bool → Way → List Way
listed_if true w = w ∷ []
listed_if false w = []

abbrev pub atom_ways : List ℕ → List Way
atom_ways [] = []
atom_ways (n ∷ ns) = way.Atom n ∷ atom_ways ns

abbrev pub missing_ways : Bool → List Way
missing_ways true = way.MissingLive ∷ way.MissingFreed ∷ []
missing_ways false = []

-- the place is null, or that of an atom of the block type, in order, or that of a missing block
abbrev pub access_ways : State → TypeId → PlaceOf → List Way
access_ways s block p =
    listed_if (is_open s.vars (SamePlace p place.Null)) way.Null
    ++ atom_ways (numbers_of (λ n (a : Atom). nat_eq a.block.0 block.0 && may_be_at s.vars p a) 0 s.atoms)
    ++ missing_ways (may_be_missing s.vars p)

-- the place that an access to blocks of a type goes through, where the content is a pointer to that type
abbrev pub accessed : List VarInfo → TypeId → Content → Option PlaceOf
accessed vars block Unwritten = None
accessed vars block (Word p) = None
accessed vars block (Place p) = elim (is_place_of vars block p) [ true ↦ Some p | false ↦ None ]
accessed vars block (Cell x) = None

-- ---- missing blocks

-- what stands in cells of these types, by variables of its own from the n-th on
abbrev pub cell_contents : ℕ → List ValueType → List Content
cell_contents n [] = []
cell_contents n (t ∷ ts) = Cell (record { 0 = n }) ∷ cell_contents (suc n) ts

abbrev pub cell_infos : List ValueType → List VarInfo
cell_infos ts = map (info sort.Cell) ts

abbrev pub atom_of : Var → TypeId → AtomState → Atom
atom_of x block state = record { place = x; block = block; state = state }

abbrev pub block_cells : List BlockType → TypeId → List ValueType
block_cells types block = types_of (slice_get types block.0)

-- a live block at this variable that the path hasn't met
abbrev pub meet_live : List BlockType → TypeId → Var → State → State
meet_live types block x s =
    with_variables (cell_infos (block_cells types block)) (met (atom_of x block (Live (cell_contents (length s.vars) (block_cells types block)))) s)

-- a freed one
abbrev pub meet_freed : TypeId → Var → State → State
meet_freed block x s = met (atom_of x block Freed) s

-- ---- what a command does with null, a freed block, and the cells of the live block of an atom
pub record Access : Type 0 where
  pub null : State → Done
  pub freed : State → Done
  pub live : ℕ → List Content → State → Done

abbrev pub with_state : AtomState → Atom → Atom
with_state state a = record a { state = state }

-- the atom with a number has another state
abbrev pub set_atom : ℕ → AtomState → List Atom → List Atom
set_atom n state [] = []
set_atom zero state (a ∷ rest) = with_state state a ∷ rest
set_atom (suc n) state (a ∷ rest) = a ∷ set_atom n state rest

abbrev pub change_atom : ℕ → AtomState → State → State
change_atom n state s = record s { atoms = set_atom n state s.atoms }

-- the slot gets a cell
abbrev pub load_access : ℕ → ℕ → Site → Access
load_access to field site = record {
  null = λ s. fails NullDereference site (marked mark.Access site s);
  freed = λ s. fails UseAfterFree site (marked mark.Access site s);
  live = λ n cells s. on (set_slot to (content_at cells field) (marked mark.Access site s));
}

-- a cell gets a content
abbrev pub store_access : ℕ → Content → Site → Access
store_access field c site = record {
  null = λ s. fails NullDereference site (marked mark.Access site s);
  freed = λ s. fails UseAfterFree site (marked mark.Access site s);
  live = λ n cells s. on (change_atom n (Live (slice_set cells field c)) (marked mark.Access site s));
}

-- the block is freed; of null nothing is done
abbrev pub free_access : Site → Access
free_access site = record {
  null = λ s. on (marked mark.FreeNull site s);
  freed = λ s. fails DoubleFree site (marked mark.Freed site s);
  live = λ n cells s. on (change_atom n Freed (marked mark.Freed site s));
}

-- ---- acts

abbrev pub use_state : Access → ℕ → AtomState → State → Done
use_state a n (Live cells) s = a.live n cells s
use_state a n Freed s = a.freed s

-- through the block of the atom with a number
abbrev pub use_atom : Access → ℕ → Option Atom → State → Done
use_atom a n None s = on s
use_atom a n (Some b) s = use_state a n b.state s

abbrev pub reach_atom : Access → PlaceOf → ℕ → Option Atom → State → Done
reach_atom a p n None s = on s
reach_atom a p n (Some b) s = use_state a n b.state (assumed (SamePlace p (place.Var b.place)) s)

-- through a block that is met by this access
abbrev pub reach_missing : (Var → State → State) → Access → PlaceOf → State → Done
reach_missing meet a place.Null s = on s
reach_missing meet a (place.Var x) s = use_atom a (length s.atoms) (slice_get (meet x s).atoms (length s.atoms)) (meet x s)

abbrev pub access_done : List BlockType → TypeId → Access → PlaceOf → Way → State → Done
access_done types block a p way.Null s = a.null (assumed (SamePlace p place.Null) s)
access_done types block a p (way.Atom n) s = reach_atom a p n (slice_get s.atoms n) s
access_done types block a p way.MissingLive s = reach_missing (meet_live types block) a p s
access_done types block a p way.MissingFreed s = reach_missing (meet_freed block) a p s
access_done types block a p _ s = on s
