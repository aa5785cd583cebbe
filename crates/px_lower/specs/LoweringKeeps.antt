-- The law of lowering.
use Rattle.std.specs.Prelude.{◌↔◌, ℕ, List}
use Rattle.px_base.specs.declared.trace.Mark.{Mark}
use Rattle.px_meaning.specs.Values.{Value}
use Rattle.px_meaning.specs.Heaps.{HeapMap}
use Rattle.px_meaning.specs.Calls.{Ending}
use Rattle.px_meaning.specs.Events.{Event}
use Rattle.px_meaning.specs.CoreCalls.{CoreCalls, CoreCallsWithin, CoreEvents}
use Rattle.px_meaning.specs.TypedProgram.{TypedProgram}
use Rattle.px_meaning.specs.TreeTypes.{KeepsTyping}
use Rattle.px_meaning.specs.TreeCalls.{TreeCalls, BoundedTreeCalls, TreeEvents}
use Rattle.px_lower.specs.LoweredProgram.{lowered_program}
use Rattle.px_lower.specs.Scopes.{KeepsScopes}

-- A call of a program's trees is a call of its lowered bodies, and the other way round: with the same
-- arguments and heap, the same trace, ending and heap at the end. So it is within each bound, and with what
-- the program doesn't determine. Of the typing rules it needs no more than `KeepsScopes`.
pub record LoweringKeeps : Type 0 where
  pub calls : (P : TypedProgram) → KeepsScopes P → (f : ℕ) (arguments : List Value) (heap : HeapMap) (t : List Mark) (ending : Ending) (end : HeapMap) →
      TreeCalls P f arguments heap t ending end ↔ CoreCalls (lowered_program P) f arguments heap t ending end
  pub bounded : (bound : ℕ) (P : TypedProgram) → KeepsScopes P → (f : ℕ) (arguments : List Value) (heap : HeapMap) (t : List Mark) (ending : Ending) (end : HeapMap) →
      BoundedTreeCalls bound P f arguments heap t ending end ↔ CoreCallsWithin bound (lowered_program P) f arguments heap t ending end
  pub events : (P : TypedProgram) → KeepsScopes P → (f : ℕ) (arguments : List Value) (heap : HeapMap) (t : List Event) (ending : Ending) (end : HeapMap) →
      TreeEvents P f arguments heap t ending end ↔ CoreEvents (lowered_program P) f arguments heap t ending end
  pub typed : (P : TypedProgram) → KeepsTyping P → KeepsScopes P
