-- When an execution of a procedure is covered by a table.
use Rattle.std.specs.Prelude.{◌≡◌, ◌⊎◌, List, ◌++◌, length, Any}
use Rattle.px_base.specs.declared.trace.Mark.{Mark}
use Rattle.px_terms.specs.Valuations.{Valuation}
use Rattle.px_entry.specs.declared.entries.Entry.{Entry}
use Rattle.px_entry.specs.declared.tables.Gap.{Gap}
use Rattle.px_entry.specs.declared.tables.Table.{Table}
use Rattle.px_entry.specs.Satisfied.{Satisfies}
use Rattle.px_meaning.specs.Values.{Value, ValueType, BlockType}
use Rattle.px_meaning.specs.Heaps.{HeapMap, join, AreApart}
use Rattle.px_meaning.specs.Calls.{Calls, Ending, IsCallingState}
use Rattle.px_meaning.specs.Triples.{StandFor, values_from, ending_of}

-- an execution of a procedure: its arguments and the heap before, its trace, how it ends, and the heap that it leaves
pub record Execution : Type 0 where
  pub arguments : List Value
  pub before : HeapMap
  pub trace : List Mark
  pub ending : Ending
  pub after : HeapMap

-- The entry has the execution's trace and ending under some valuation that satisfies it and gives the arguments. What
-- the entry found is a part of the heap before, and what it left, with the rest of that heap, is the heap after. The
-- rest has no block of either.
pub record IsOf (e : Execution) (x : Entry) : Type 0 where
  pub valuation : Valuation
  pub satisfies : Satisfies valuation x
  pub given : e.arguments ≡ values_from valuation 0 (length e.arguments)
  pub trace : e.trace ≡ x.trace
  pub ending : e.ending ≡ ending_of valuation x.exit x.result
  pub found : HeapMap
  pub left : HeapMap
  pub rest : HeapMap
  pub finds : StandFor valuation x.pre found
  pub leaves : StandFor valuation x.post left
  pub apart_before : AreApart found rest
  pub apart_after : AreApart left rest
  pub begins : e.before ≡ join found rest
  pub ends : e.after ≡ join left rest

-- a trace that another begins with
abbrev pub Begins : List Mark → List Mark → Type 0
Begins first whole = (more : List Mark) × (whole ≡ first ++ more)

-- an entry of the table is of the execution, or the execution's trace begins with that of a drop
abbrev pub IsCovered : Execution → Table → Type 0
IsCovered e table = Any (IsOf e) table.entries ⊎ Any (λ (gap : Gap). Begins gap.trace e.trace) table.drops

-- the table covers each of these calls of a procedure with these parameters, from its calling states
abbrev pub Covers : List BlockType → List ValueType → Calls → Table → Type 0
Covers types parameters calls table =
    (arguments : List Value) (before : HeapMap) → IsCallingState types parameters arguments before →
    (trace : List Mark) (ending : Ending) (after : HeapMap) → calls arguments before trace ending after →
    IsCovered (record { arguments = arguments; before = before; trace = trace; ending = ending; after = after }) table
