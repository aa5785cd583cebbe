-- Whole tables, worked by hand.
use Rattle.std.specs.Prelude.{ℕ, pos, List, [], ◌∷◌, ◌++◌, None}
use Rattle.px_base.specs.declared.trace.Mark.{Mark}
use Rattle.px_base.specs.declared.trace.MarkKind.TheVariants as mark
use Rattle.px_base.specs.declared.trace.Kind.TheVariants.{UseAfterFree, DoubleFree}
use Rattle.px_terms.specs.declared.types.Value.{Value}
use Rattle.px_terms.specs.declared.types.Value.TheVariants.{Word, Null, Block}
use Rattle.px_terms.specs.declared.variables.VarInfo.{VarInfo}
use Rattle.px_terms.specs.declared.conjuncts.Conj.{Conj}
use Rattle.px_entry.specs.declared.atoms.Atom.{Atom}
use Rattle.px_entry.specs.declared.entries.Entry.{Entry}
use Rattle.px_entry.specs.declared.entries.Exit.{Exit}
use Rattle.px_entry.specs.declared.entries.Exit.TheVariants.{Ok, Error}
use Rattle.px_entry.specs.declared.tables.Gap.{Gap}
use Rattle.px_entry.specs.declared.tables.Table.{Table}
use Rattle.px_entry.specs.declared.tables.Cause.{Cause}
use Rattle.px_entry.specs.declared.tables.Cause.TheVariants as cause
use Rattle.px_callgraph.specs.JobTree.{JobTree}
use Rattle.px_callgraph.specs.WorkedStates.{proc}
use Rattle.px_callgraph.specs.WorkedPaths.{two_frees, site, mark_at, p_is_null, unknown, freed, nulls, twice, twice_freed}
use Rattle.px_symexec.specs.Tables.{IsTable, HasLivePrefixes}
use Rattle.px_symexec.specs.WorkedJobs.{at, marked_at, writes_freed, frees_in_turns, a_pointer, a_made, an_int}

-- an entry of procedure 0, without a result
abbrev pub entry : List Mark → Exit → List VarInfo → List Conj → List Atom → List Atom → List Value → Entry
entry trace exit vars pure pre post model =
    record { proc = proc 0; trace = trace; exit = exit; result = None; vars = vars; pure = pure; pre = pre; post = post; model = model }

abbrev pub table : List Entry → List Gap → Table
table entries drops = record { entries = entries; drops = drops }

-- of every trace
abbrev pub spent : Cause → Gap
spent why = record { trace = []; cause = why }

-- ---- a block is written, freed, and written again

abbrev pub no_room : Entry
no_room = entry (marked_at mark.NoBlock (at 2 10) ∷ marked_at mark.Then (at 3 7) ∷ []) Ok [] [] [] [] []

abbrev pub written_freed : Entry
written_freed = entry
    (marked_at mark.Got (at 2 10) ∷ marked_at mark.Else (at 3 7) ∷ marked_at mark.Access (at 4 3) ∷ marked_at mark.Freed (at 5 3) ∷ marked_at mark.Access (at 6 3) ∷ [])
    (Error UseAfterFree (at 6 3)) (a_made ∷ []) [] [] (freed ∷ []) (Block 1 ∷ [])

-- ---- a parameter is freed twice

abbrev pub two_frees_within : ℕ → ℕ → JobTree
two_frees_within paths nodes = record two_frees { limits = record { unroll = 3; paths = paths; nodes = nodes } }

-- null both times
abbrev pub null_twice : Entry
null_twice = entry nulls Ok (a_pointer ∷ []) (p_is_null ∷ []) [] [] (Null ∷ [])

-- a block that was there
abbrev pub block_twice : Entry
block_twice = entry twice twice_freed (a_pointer ∷ an_int ∷ []) [] (unknown 1 ∷ []) (freed ∷ []) (Block 1 ∷ Word (pos 0) ∷ [])

-- a block that was freed before
abbrev pub freed_before : Entry
freed_before = entry (mark_at mark.Freed 16 ∷ []) (Error DoubleFree (site 16)) (a_pointer ∷ []) [] (freed ∷ []) (freed ∷ []) (Block 1 ∷ [])

-- ---- a loop frees a block in each turn

abbrev pub no_room_in_line : Entry
no_room_in_line = entry (marked_at mark.NoBlock (at 1 21) ∷ marked_at mark.Then (at 1 45) ∷ []) Ok [] [] [] [] []

abbrev pub a_turn : List Mark
a_turn = marked_at mark.Then (at 1 74) ∷ marked_at mark.Iter (at 1 67) ∷ marked_at mark.Freed (at 1 78) ∷ []

abbrev pub freed_in_turns : Entry
freed_in_turns = entry
    (marked_at mark.Got (at 1 21) ∷ marked_at mark.Else (at 1 45) ∷ (a_turn ++ a_turn)) (Error DoubleFree (at 1 78)) (a_made ∷ []) [] [] (freed ∷ []) (Block 1 ∷ [])

-- ---- the tables

-- a job has this table, and so many live prefixes
pub record HasTable (j : JobTree) (n : ℕ) (t : Table) : Type 0 where
  pub is_table : IsTable j t
  pub numbered : HasLivePrefixes j n

pub record WorkedTables : Type 0 where
  -- where `malloc` is chosen, null, and the block
  pub use_after_free : HasTable (writes_freed 64 10000) 3 (table (no_room ∷ written_freed ∷ []) [])
  -- null, a live block or a freed one at the first `free`; null or the same block at the second; five more ends are refuted
  pub double_free : HasTable two_frees 6 (table (null_twice ∷ block_twice ∷ freed_before ∷ []) [])
  -- the paths and nodes that it needs are enough: the five ends that are refuted count for nothing
  pub just_enough : HasTable (two_frees_within 3 6) 6 (table (null_twice ∷ block_twice ∷ freed_before ∷ []) [])
  -- two turns are within the bound
  pub within_bound : HasTable (frees_in_turns 2) 3 (table (no_room_in_line ∷ freed_in_turns ∷ []) [])
  -- the second turn is past the bound: it is no entry, and no drop, but it has its number
  pub past_bound : HasTable (frees_in_turns 1) 3 (table (no_room_in_line ∷ []) [])
  -- the second prefix is the end
  pub one_node : HasTable (writes_freed 64 1) 2 (table [] (spent (cause.Nodes 1) ∷ []))
  -- the third is, since it is an ended case after another
  pub one_path : HasTable (writes_freed 1 10000) 3 (table (no_room ∷ []) (spent (cause.Paths 1) ∷ []))
