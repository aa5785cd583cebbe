-- Meanings in which what isn't understood has executions too, and all else is as it is.
use Rattle.std.specs.Prelude.{◌≡◌, ℕ, zero, suc, ◌≤◌, List, [], ◌++◌, length, Option, Some, None, IsSomeAnd, ⊤}
use Rattle.px_base.specs.Bounds.{most_marks}
use Rattle.px_base.specs.declared.trace.Site.{Site}
use Rattle.px_base.specs.declared.trace.Mark.{Mark}
use Rattle.px_meaning.specs.Values.{Value}
use Rattle.px_meaning.specs.Heaps.{HeapMap}
use Rattle.px_meaning.specs.Calls.{error, outside, Ending, Returned, Failed, Calls}
use Rattle.px_meaning.specs.Execution.{Locals}
use Rattle.px_meaning.specs.Events.{Event, mark_of}
use Rattle.px_meaning.specs.Steps.{ProcedureCalls}
use Rattle.px_meaning.specs.TypedProgram.{TypedProgram}
use Rattle.px_meaning.specs.TreeExecution.{Exits, falls, breaks, continues, returns, fails, Executes}
use Rattle.px_meaning.specs.TreeCalls.{first_locals, closes}

-- What may come of a call of a procedure that has come to what isn't understood, by the number of its word, its place, and the
-- locals and the heap there: what is seen from there on, how the call ends, and the heap that it leaves. So the
-- construct may do anything: give a value, write locals and blocks, jump, return or fail.
abbrev pub Rest : Type 0 → Type 1
Rest E = ℕ → ℕ → Site → Locals → HeapMap → List E → Ending → HeapMap → Type 0

-- what the exit of a body makes of the call, where what isn't understood goes on so
abbrev pub closes_by : {E : Type 0} → Rest E → ℕ → List E → Ending → HeapMap → Exits E
closes_by rest f t ending end so_far (fails (outside word) site) locals heap = (more : List _) × (t ≡ so_far ++ more) × rest f word site locals heap more ending end
closes_by rest f t ending end so_far (fails (error kind) site) locals heap = closes t ending end so_far (fails (error kind) site) locals heap
closes_by rest f t ending end so_far falls locals heap = closes t ending end so_far falls locals heap
closes_by rest f t ending end so_far (returns v) locals heap = closes t ending end so_far (returns v) locals heap
closes_by rest f t ending end so_far breaks locals heap = closes t ending end so_far breaks locals heap
closes_by rest f t ending end so_far continues locals heap = closes t ending end so_far continues locals heap

-- the calls of kept procedures, as they are but that what isn't understood goes on so, in callees too
abbrev pub FullerCallsWithin : {E : Type 0} → (Event → E) → Option ℕ → Rest E → TypedProgram → ℕ → ProcedureCalls E
FullerCallsWithin seen bound rest P zero f arguments heap t ending end = ⊥
FullerCallsWithin seen bound rest P (suc n) f arguments heap t ending end = IsSomeAnd (P.procedures f) (λ p.
    Executes seen P.types (FullerCallsWithin seen bound rest P n) bound n p.body (first_locals arguments) [] heap (closes_by rest f t ending end))

abbrev pub SeenFullerCalls : {E : Type 0} → (Event → E) → Option ℕ → Rest E → TypedProgram → ProcedureCalls E
SeenFullerCalls seen bound rest P f arguments heap t ending end = (n : ℕ) × FullerCallsWithin seen bound rest P n f arguments heap t ending end

-- the calls of a procedure in this fuller meaning, with their traces
abbrev pub FullerCalls : Rest Mark → TypedProgram → ℕ → Calls
FullerCalls rest P = SeenFullerCalls mark_of None rest P

-- those within a bound
abbrev pub BoundedFullerCalls : ℕ → Rest Mark → TypedProgram → ℕ → Calls
BoundedFullerCalls bound rest P f arguments heap t ending end = SeenFullerCalls mark_of (Some bound) rest P f arguments heap t ending end × (length t ≤ most_marks)

-- ---- which of them are understood

-- the call returned, or ended in a memory error
abbrev pub IsUnderstood : Ending → Type 0
IsUnderstood (Returned v) = ⊤
IsUnderstood (Failed (error kind) site) = ⊤
IsUnderstood (Failed (outside word) site) = ⊥

-- a trace passes what isn't understood: it begins with that of a call which comes there
pub record Passes (calls : Calls) (arguments : List Value) (heap : HeapMap) (t : List Mark) : Type 0 where
  pub first : List Mark
  pub more : List Mark
  pub word : ℕ
  pub site : Site
  pub there : HeapMap
  pub comes : calls arguments heap first (Failed (outside word) site) there
  pub begins : t ≡ first ++ more
