-- The executions of a program by its typed trees.
use Rattle.std.specs.Prelude.{◌≡◌, ℕ, zero, suc, ◌≤◌, List, [], length, Option, Some, None, IsSomeAnd, slice_index_or}
use Rattle.px_base.specs.Bounds.{most_marks}
use Rattle.px_meaning.specs.Values.{Value, Unwritten}
use Rattle.px_meaning.specs.Heaps.{HeapMap}
use Rattle.px_meaning.specs.Calls.{Ending, Returned, Failed, Calls}
use Rattle.px_meaning.specs.Execution.{Locals}
use Rattle.px_meaning.specs.Events.{Event, mark_of}
use Rattle.px_meaning.specs.Steps.{ProcedureCalls}
use Rattle.px_meaning.specs.TypedProgram.{TypedProgram}
use Rattle.px_meaning.specs.TreeExecution.{Exits, falls, breaks, continues, returns, fails, Executes}

-- the arguments are the first locals, and all others are unwritten
abbrev pub first_locals : List Value → Locals
first_locals arguments n = slice_index_or arguments n Unwritten

-- what the exit of a body makes of the call: one that falls off its end returns nothing, and no body
-- breaks or continues
abbrev pub closes : {E : Type 0} → List E → Ending → HeapMap → Exits E
closes t ending end so_far falls locals heap = (t ≡ so_far) × (ending ≡ Returned Unwritten) × (end ≡ heap)
closes t ending end so_far (returns v) locals heap = (t ≡ so_far) × (ending ≡ Returned v) × (end ≡ heap)
closes t ending end so_far (fails kind site) locals heap = (t ≡ so_far) × (ending ≡ Failed kind site) × (end ≡ heap)
closes t ending end so_far breaks locals heap = ⊥
closes t ending end so_far continues locals heap = ⊥

-- the calls of kept procedures in which calls nest fewer than n deep and each loop makes fewer than n turns
abbrev pub TreeCallsWithin : {E : Type 0} → (Event → E) → Option ℕ → TypedProgram → ℕ → ProcedureCalls E
TreeCallsWithin seen bound P zero f arguments heap t ending end = ⊥
TreeCallsWithin seen bound P (suc n) f arguments heap t ending end =
    IsSomeAnd (P.procedures f) (λ p. Executes seen P.types (TreeCallsWithin seen bound P n) bound n p.body (first_locals arguments) [] heap (closes t ending end))

-- the calls of kept procedures, seen as `seen` says
abbrev pub SeenTreeCalls : {E : Type 0} → (Event → E) → Option ℕ → TypedProgram → ProcedureCalls E
SeenTreeCalls seen bound P f arguments heap t ending end = (n : ℕ) × TreeCallsWithin seen bound P n f arguments heap t ending end

-- the calls of a procedure, with their traces
abbrev pub TreeCalls : TypedProgram → ℕ → Calls
TreeCalls P = SeenTreeCalls mark_of None P

-- those in which each loop, each time that it is entered, begins its body at most so often, and the trace
-- has no more marks than a path may
abbrev pub BoundedTreeCalls : ℕ → TypedProgram → ℕ → Calls
BoundedTreeCalls bound P f arguments heap t ending end = SeenTreeCalls mark_of (Some bound) P f arguments heap t ending end × (length t ≤ most_marks)

-- the calls of a procedure, with what the program doesn't determine
abbrev pub TreeEvents : TypedProgram → ProcedureCalls Event
TreeEvents P = SeenTreeCalls (λ e. e) None P
