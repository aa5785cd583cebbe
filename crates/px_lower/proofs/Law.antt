-- The law of lowering, for each way to see an execution.
use Rattle.std.proofs.Common.{◌↔◌, ℕ, suc, List, Option, None, Some, le_refl}
use Rattle.px_meaning.specs.Values.{Value}
use Rattle.px_meaning.specs.Heaps.{HeapMap}
use Rattle.px_meaning.specs.Calls.{Ending}
use Rattle.px_meaning.specs.Events.{Event, mark_of}
use Rattle.px_meaning.specs.CoreCalls.{SeenCalls}
use Rattle.px_meaning.specs.TypedProgram.{TypedProgram}
use Rattle.px_meaning.specs.TreeCalls.{SeenTreeCalls}
use Rattle.px_lower.specs.LoweredProgram.{lowered_program}
use Rattle.px_lower.specs.Scopes.{KeepsScopes}
use Rattle.px_lower.specs.LoweringKeeps.{LoweringKeeps}
use Rattle.px_lower.proofs.TypedScopes.{keeps_scopes}
use Rattle.px_lower.proofs.MeetsCalls.{down_calls, up_calls}

both_ways : {E : Type 0} (seen : Event → E) (bound : Option ℕ) (P : TypedProgram) → KeepsScopes P → (f : ℕ) (arguments : List Value) (heap : HeapMap) (t : List E) (ending : Ending) (end : HeapMap) →
    SeenTreeCalls seen bound P f arguments heap t ending end ↔ SeenCalls seen bound (lowered_program P) f arguments heap t ending end
both_ways seen bound P scopes f arguments heap t ending end = (
  λ (n, c). down_calls seen bound P scopes n f arguments heap t ending end c,
  λ (i, c). (suc i, up_calls seen bound P scopes i f arguments heap t ending end i (le_refl i) c),
)

pub keeps : LoweringKeeps
keeps = record {
  calls = λ P scopes f arguments heap t ending end. both_ways mark_of None P scopes f arguments heap t ending end;
  bounded = λ bound P scopes f arguments heap t ending end.
      let h = both_ways mark_of (Some bound) P scopes f arguments heap t ending end in
      (λ c. (h.0 c.0, c.1), λ c. (h.1 c.0, c.1));
  events = λ P scopes f arguments heap t ending end. both_ways (λ e. e) None P scopes f arguments heap t ending end;
  typed = keeps_scopes;
}
