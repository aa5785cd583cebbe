-- Laws of the executions of the core, by which its definitions are known to mean something.
use Rattle.std.specs.Prelude.{◌≡◌, ◌↔◌, ℕ, suc, List, [], ◌++◌, map, Option, None, Some, IsSomeAnd, ⊤}
use Rattle.px_base.specs.declared.trace.Mark.{Mark}
use Rattle.px_meaning.specs.Values.{ValueType, Value, Unwritten}
use Rattle.px_meaning.specs.Heaps.{HeapMap, HeapBlock, Freed, IsCell, IsWellTyped}
use Rattle.px_meaning.specs.Calls.{Ending, Returned, Failed, IsCallingState}
use Rattle.px_meaning.specs.Events.{Event, mark_of, unnumbered}
use Rattle.px_core.specs.BodyTree.{BodyTree}
use Rattle.px_meaning.specs.CoreTypes.{KeepsTypes}
use Rattle.px_meaning.specs.CoreCalls.{CoreProgram, CoreCalls, CoreCallsWithin, CoreEvents}

-- calls within a bound are calls, and within the next bound
pub record BoundsWiden : Type 0 where
  pub calls : (bound : ℕ) (P : CoreProgram) (f : ℕ) (arguments : List Value) (heap : HeapMap) (t : List Mark) (ending : Ending) (end : HeapMap) →
      CoreCallsWithin bound P f arguments heap t ending end → CoreCalls P f arguments heap t ending end
  pub next : (bound : ℕ) (P : CoreProgram) (f : ℕ) (arguments : List Value) (heap : HeapMap) (t : List Mark) (ending : Ending) (end : HeapMap) →
      CoreCallsWithin bound P f arguments heap t ending end → CoreCallsWithin (suc bound) P f arguments heap t ending end

-- From one state, the events determine the execution: those with the same marks, values of inputs and
-- numbers of new blocks end alike, and the events of one are never a proper beginning of another's.
pub record EventsDetermine : Type 0 where
  pub same : (P : CoreProgram) (f : ℕ) (arguments : List Value) (heap : HeapMap) (t : List Event) (ending ending' : Ending) (end end' : HeapMap) →
      CoreEvents P f arguments heap t ending end → CoreEvents P f arguments heap t ending' end' → (ending ≡ ending') × (end ≡ end')
  pub whole : (P : CoreProgram) (f : ℕ) (arguments : List Value) (heap : HeapMap) (t more : List Event) (ending ending' : Ending) (end end' : HeapMap) →
      CoreEvents P f arguments heap t ending end → CoreEvents P f arguments heap (t ++ more) ending' end' → more ≡ []

-- both return, or both fail in the same error
abbrev pub EndsAlike : Ending → Ending → Type 0
EndsAlike (Returned v) (Returned w) = ⊤
EndsAlike (Failed kind site) (Failed kind' site') = (kind ≡ kind') × (site ≡ site')
EndsAlike _ _ = ⊥

-- From one calling state, the marks and the values of inputs of one execution are never a proper
-- beginning of those of another, whatever numbers the new blocks have; and where they are the same, both
-- executions end alike.
abbrev pub TracesAreWhole : Type 0
TracesAreWhole = (P : CoreProgram) (f : ℕ) (parameters : List ValueType) (arguments : List Value) (heap : HeapMap) → IsCallingState P.types parameters arguments heap →
    (s t more : List Event) (ending ending' : Ending) (end end' : HeapMap) → CoreEvents P f arguments heap s ending end → CoreEvents P f arguments heap t ending' end' →
    map unnumbered t ≡ map unnumbered s ++ more → (more ≡ []) × EndsAlike ending ending'

-- the calls with a trace are those whose events have these marks
abbrev pub EventsHaveMarks : Type 0
EventsHaveMarks = (P : CoreProgram) (f : ℕ) (arguments : List Value) (heap : HeapMap) (t : List Mark) (ending : Ending) (end : HeapMap) →
    CoreCalls P f arguments heap t ending end ↔ ((events : List Event) × (map mark_of events ≡ t) × CoreEvents P f arguments heap events ending end)

-- a block is still there, of the same type, and freed if it was
abbrev pub IsStill : HeapBlock → HeapBlock → Type 0
IsStill old new = (new.block_type ≡ old.block_type) × (old.state ≡ Freed → new.state ≡ Freed)

-- each block of a heap is still there in another
pub record Grows (old new : HeapMap) : Type 0 where
  pub still : (n : ℕ) (b : HeapBlock) → old n ≡ Some b → IsSomeAnd (new n) (IsStill b)

-- no call takes a block out of the heap, changes its type, or brings a freed one back
abbrev pub HeapsGrow : Type 0
HeapsGrow = (P : CoreProgram) (f : ℕ) (arguments : List Value) (heap : HeapMap) (t : List Mark) (ending : Ending) (end : HeapMap) →
    CoreCalls P f arguments heap t ending end → Grows heap end

-- what is returned by a procedure with this result type: a value of the type or nothing written, and
-- nothing where there is no such type
abbrev pub IsResult : HeapMap → Option ValueType → Value → Type 0
IsResult heap None v = v ≡ Unwritten
IsResult heap (Some t) v = IsCell heap t v

abbrev pub EndsTyped : HeapMap → Option ValueType → Ending → Type 0
EndsTyped heap result (Returned v) = IsResult heap result v
EndsTyped heap result (Failed kind site) = ⊤

-- A call from a calling state of a procedure leaves a well-typed heap and returns a value of the
-- procedure's type, where the bodies of the program keep to types.
pub record TypesStay : Type 0 where
  pub stay : (P : CoreProgram) → KeepsTypes P → (f : ℕ) (b : BodyTree) → P.bodies f ≡ Some b →
      (arguments : List Value) (heap : HeapMap) → IsCallingState P.types b.parameters arguments heap →
      (t : List Mark) (ending : Ending) (end : HeapMap) → CoreCalls P f arguments heap t ending end →
      IsWellTyped P.types end × EndsTyped end b.result ending
