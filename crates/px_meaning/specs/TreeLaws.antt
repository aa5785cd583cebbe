-- Laws of the executions of typed trees.
use Rattle.std.specs.Prelude.{◌≡◌, ◌↔◌, ℕ, suc, List, [], ◌++◌, map, Some}
use Rattle.px_base.specs.declared.trace.Mark.{Mark}
use Rattle.px_meaning.specs.Values.{ValueType, Value}
use Rattle.px_meaning.specs.Heaps.{HeapMap, IsWellTyped}
use Rattle.px_meaning.specs.Calls.{Ending, IsCallingState}
use Rattle.px_meaning.specs.Events.{Event, mark_of, unnumbered}
use Rattle.px_meaning.specs.CoreLaws.{EndsAlike, Grows, EndsTyped}
use Rattle.px_meaning.specs.TypedProgram.{TypedProgram}
use Rattle.px_syntax.specs.ProgramTree.{ProcedureTree}
use Rattle.px_meaning.specs.TreeTypes.{KeepsTyping}
use Rattle.px_meaning.specs.TreeCalls.{TreeCalls, BoundedTreeCalls, TreeEvents}

-- From one state, the events determine the execution: those with the same marks, values of inputs and
-- numbers of new blocks end alike, and the events of one are never a proper beginning of another's.
pub record TreeEventsDetermine : Type 0 where
  pub same : (P : TypedProgram) (f : ℕ) (arguments : List Value) (heap : HeapMap) (t : List Event) (ending ending' : Ending) (end end' : HeapMap) →
      TreeEvents P f arguments heap t ending end → TreeEvents P f arguments heap t ending' end' → (ending ≡ ending') × (end ≡ end')
  pub whole : (P : TypedProgram) (f : ℕ) (arguments : List Value) (heap : HeapMap) (t more : List Event) (ending ending' : Ending) (end end' : HeapMap) →
      TreeEvents P f arguments heap t ending end → TreeEvents P f arguments heap (t ++ more) ending' end' → more ≡ []

-- calls within a bound are calls, and within the next bound
pub record TreeBoundsWiden : Type 0 where
  pub calls : (bound : ℕ) (P : TypedProgram) (f : ℕ) (arguments : List Value) (heap : HeapMap) (t : List Mark) (ending : Ending) (end : HeapMap) →
      BoundedTreeCalls bound P f arguments heap t ending end → TreeCalls P f arguments heap t ending end
  pub next : (bound : ℕ) (P : TypedProgram) (f : ℕ) (arguments : List Value) (heap : HeapMap) (t : List Mark) (ending : Ending) (end : HeapMap) →
      BoundedTreeCalls bound P f arguments heap t ending end → BoundedTreeCalls (suc bound) P f arguments heap t ending end

-- no call takes a block out of the heap, changes its type, or brings a freed one back
abbrev pub TreeHeapsGrow : Type 0
TreeHeapsGrow = (P : TypedProgram) (f : ℕ) (arguments : List Value) (heap : HeapMap) (t : List Mark) (ending : Ending) (end : HeapMap) →
    TreeCalls P f arguments heap t ending end → Grows heap end

-- A call from a calling state of a procedure leaves a well-typed heap and returns a value of the
-- procedure's type, where the trees of the program keep the typing rules.
pub record TreeTypesStay : Type 0 where
  pub stay : (P : TypedProgram) → KeepsTyping P → (f : ℕ) (p : ProcedureTree) → P.procedures f ≡ Some p →
      (arguments : List Value) (heap : HeapMap) → IsCallingState P.types p.parameters arguments heap →
      (t : List Mark) (ending : Ending) (end : HeapMap) → TreeCalls P f arguments heap t ending end →
      IsWellTyped P.types end × EndsTyped end p.result ending

-- From one calling state, the marks and the values of inputs of one execution are never a proper
-- beginning of those of another, whatever numbers the new blocks have; and where they are the same, both
-- executions end alike.
abbrev pub TreeTracesAreWhole : Type 0
TreeTracesAreWhole = (P : TypedProgram) (f : ℕ) (parameters : List ValueType) (arguments : List Value) (heap : HeapMap) → IsCallingState P.types parameters arguments heap →
    (s t more : List Event) (ending ending' : Ending) (end end' : HeapMap) → TreeEvents P f arguments heap s ending end → TreeEvents P f arguments heap t ending' end' →
    map unnumbered t ≡ map unnumbered s ++ more → (more ≡ []) × EndsAlike ending ending'

-- the calls with a trace are those whose events have these marks
abbrev pub TreeEventsHaveMarks : Type 0
TreeEventsHaveMarks = (P : TypedProgram) (f : ℕ) (arguments : List Value) (heap : HeapMap) (t : List Mark) (ending : Ending) (end : HeapMap) →
    TreeCalls P f arguments heap t ending end ↔ ((events : List Event) × (map mark_of events ≡ t) × TreeEvents P f arguments heap events ending end)
