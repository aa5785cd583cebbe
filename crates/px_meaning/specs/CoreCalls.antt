-- The executions of a program of the core.
use Rattle.std.specs.Prelude.{◌≡◌, ℕ, zero, suc, ◌≤◌, List, [], ◌∷◌, ◌++◌, length, Option, Some, None, IsSomeAnd}
use Rattle.px_base.specs.Bounds.{most_marks}
use Rattle.px_core.specs.BodyTree.{BodyTree}
use Rattle.px_meaning.specs.Values.{Value, BlockType, Unwritten}
use Rattle.px_meaning.specs.Heaps.{HeapMap}
use Rattle.px_meaning.specs.Calls.{Ending, Returned, Calls}
use Rattle.px_meaning.specs.Events.{Event, mark_of}
use Rattle.px_core.specs.Control.{Item, acts}
use Rattle.px_meaning.specs.Steps.{Goes, Ends, Goal, ProcedureCalls, step}

-- a program of the core: the block types that it names, and the body of each procedure that is kept
pub record CoreProgram : Type 0 where
  pub types : List BlockType
  pub bodies : ℕ → Option BodyTree

-- the arguments are in the first slots, and all others are unwritten
abbrev pub first_slots : ℕ → List Value → List Value
first_slots zero arguments = []
first_slots (suc n) [] = Unwritten ∷ first_slots n []
first_slots (suc n) (a ∷ arguments) = a ∷ first_slots n arguments

-- what was seen, with some events after it; nothing is appended for none
abbrev pub after : {E : Type 0} → List E → List E → List E
after so_far [] = so_far
after so_far (e ∷ events) = after (so_far ++ e ∷ []) events

-- a step is after what was seen so far, and the whole is t: either the execution goes on, or it ends so
abbrev pub Behind : {E : Type 0} → (List Item → List Value → HeapMap → List E → Type 0) → List E → List E → Ending → HeapMap → Goal E
Behind go so_far t ending end events (Goes k slots heap) = go k slots heap (after so_far events)
Behind go so_far t ending end events (Ends ending' heap) = (t ≡ after so_far events) × (ending ≡ ending') × (end ≡ heap)

-- In fewer than n steps, those of the callees counted too as deep as calls nest, the items are done from
-- these slots and this heap to the ending and the heap at the end. What was seen so far is given, and t
-- is the whole. A body that falls off its end returns nothing.
abbrev pub Runs : {E : Type 0} → (Event → E) → Option ℕ → CoreProgram → ℕ → List Item → List Value → HeapMap → List E → List E → Ending → HeapMap → Type 0
Runs seen bound P zero k slots heap so_far t ending end = ⊥
Runs seen bound P (suc n) [] slots heap so_far t ending end = (t ≡ so_far) × (ending ≡ Returned Unwritten) × (end ≡ heap)
Runs seen bound P (suc n) (i ∷ k) slots heap so_far t ending end =
    step seen bound P.types
    (λ f arguments heap t ending end. IsSomeAnd (P.bodies f) (λ b. Runs seen bound P n (acts b.commands []) (first_slots b.slots arguments) heap [] t ending end))
    i k slots heap
    (Behind (λ k slots heap so_far. Runs seen bound P n k slots heap so_far t ending end) so_far t ending end)

-- the calls of the kept procedures that take fewer than n steps
abbrev pub CallsWithin : {E : Type 0} → (Event → E) → Option ℕ → CoreProgram → ℕ → ProcedureCalls E
CallsWithin seen bound P n f arguments heap t ending end =
    IsSomeAnd (P.bodies f) (λ b. Runs seen bound P n (acts b.commands []) (first_slots b.slots arguments) heap [] t ending end)

-- the calls of the kept procedures, seen as `seen` says
abbrev pub SeenCalls : {E : Type 0} → (Event → E) → Option ℕ → CoreProgram → ProcedureCalls E
SeenCalls seen bound P f arguments heap t ending end = (n : ℕ) × CallsWithin seen bound P n f arguments heap t ending end

-- the calls of a procedure, with their traces
abbrev pub CoreCalls : CoreProgram → ℕ → Calls
CoreCalls P = SeenCalls mark_of None P

-- The calls within a bound: each time that a loop is entered, here or in a callee, it begins its body at
-- most so often, and the trace has no more marks than a path may.
abbrev pub CoreCallsWithin : ℕ → CoreProgram → ℕ → Calls
CoreCallsWithin bound P f arguments heap t ending end = SeenCalls mark_of (Some bound) P f arguments heap t ending end × (length t ≤ most_marks)

-- the calls of a procedure, with what the program doesn't determine
abbrev pub CoreEvents : CoreProgram → ProcedureCalls Event
CoreEvents P = SeenCalls (λ e. e) None P
