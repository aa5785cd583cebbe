-- Valid triples: what an entry says of its procedure, whatever else there is in the heap.
use Rattle.std.specs.Prelude.{◌≡◌, ℕ, zero, suc, List, [], ◌∷◌, Option, Some, None, option_map, ⊤}
use Rattle.px_terms.specs.Valuations.{Valuation}
use Rattle.px_terms.specs.declared.conjuncts.Content.{Content}
use Rattle.px_entry.specs.declared.atoms.Atom.{Atom}
use Rattle.px_entry.specs.declared.atoms.AtomState.{AtomState}
use Rattle.px_entry.specs.declared.atoms.AtomState.TheVariants as atom
use Rattle.px_entry.specs.declared.entries.Entry.{Entry}
use Rattle.px_entry.specs.declared.entries.Exit.{Exit}
use Rattle.px_entry.specs.declared.entries.Exit.TheVariants.{Ok, Error}
use Rattle.px_entry.specs.Standing.{content_value, contents_value, atom_at, ArePlaced}
use Rattle.px_entry.specs.Satisfied.{Satisfies}
use Rattle.px_meaning.specs.Values.{Value, Unwritten}
use Rattle.px_meaning.specs.Heaps.{HeapMap, HeapBlock, HeapBlockState, Live, Freed, join, AreApart}
use Rattle.px_meaning.specs.Calls.{Calls, Ending, error, Returned, Failed}

-- ---- what atoms stand for

abbrev pub state_of : Valuation → AtomState → HeapBlockState
state_of v (atom.Live cells) = Live (contents_value v cells)
state_of v atom.Freed = Freed

-- the block of an atom, with its type and state
abbrev pub block_of : Valuation → Atom → HeapBlock
block_of v a = record { block_type = a.block.0; state = state_of v a.state }

-- the heap of the blocks of atoms
abbrev pub heap_of : Valuation → List Atom → HeapMap
heap_of v atoms n = option_map (block_of v) (atom_at v atoms n)

-- atoms stand for a heap: their places are blocks, each of its own, and the heap has exactly these
abbrev pub StandFor : Valuation → List Atom → HeapMap → Type 0
StandFor v atoms heap = ArePlaced v atoms × (heap ≡ heap_of v atoms)

-- ---- what a call is given, and how it ends

-- the values of n variables, from the x-th on
abbrev pub values_from : Valuation → ℕ → ℕ → List Value
values_from v x zero = []
values_from v x (suc n) = v x ∷ values_from v (suc x) n

-- nothing was written where there is no result
abbrev pub result_value : Valuation → Option Content → Value
result_value v None = Unwritten
result_value v (Some c) = content_value v c

-- an error has no result
abbrev pub ending_of : Valuation → Exit → Option Content → Ending
ending_of v Ok result = Returned (result_value v result)
ending_of v (Error kind site) result = Failed (error kind) site

abbrev pub HasResult : Valuation → Exit → Option Content → Type 0
HasResult v Ok result = ⊤
HasResult v (Error kind site) result = result_value v result ≡ Unwritten

-- ---- valid triples

-- From the parameters' values and the heap of `pre` some call has the entry's trace and ends as the entry says, with
-- the heap of `post`; and so beside every further heap that has no block of `post`, which then has none of `pre` either.
-- Both heaps are those of one valuation, and freed blocks are blocks here.
pub record IsTaken (calls : Calls) (parameters : ℕ) (x : Entry) (v : Valuation) : Type 0 where
  pub before : HeapMap
  pub after : HeapMap
  pub finds : StandFor v x.pre before
  pub leaves : StandFor v x.post after
  pub result : HasResult v x.exit x.result
  pub takes : (further : HeapMap) → AreApart after further →
      AreApart before further × calls (values_from v 0 parameters) (join before further) x.trace (ending_of v x.exit x.result) (join after further)

-- An entry is a valid triple, by the calls of a procedure with so many parameters: it is taken under every valuation
-- that fits its variables and makes its constraint true.
abbrev pub IsValid : Calls → ℕ → Entry → Type 0
IsValid calls parameters x = (v : Valuation) → Satisfies v x → IsTaken calls parameters x v
