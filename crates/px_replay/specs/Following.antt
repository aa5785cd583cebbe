-- Executions that follow a trace: its choices, the given inputs, and of the numbers for a new block the least.
use Rattle.std.specs.Prelude.{◌≡◌, ◌⊎◌, ℕ, suc, Bool, true, false, ℤ, ◌<◌, ◌≤◌, List, [], ◌∷◌, take, length, Some, ⊤}
use Rattle.px_base.specs.declared.trace.Mark.{Mark}
use Rattle.px_base.specs.declared.trace.MarkKind.{MarkKind}
use Rattle.px_base.specs.declared.trace.MarkKind.TheVariants.{Then, Else, Iter, Done, Got, NoBlock, Input, Access, Freed, FreeNull, Enter, Leave}
use Rattle.px_meaning.specs.Values.{Value}
use Rattle.px_meaning.specs.Heaps.{HeapMap, HeapBlock}
use Rattle.px_meaning.specs.Calls.{Ending}
use Rattle.px_meaning.specs.Events.{Event, marks, reads, makes, mark}
use Rattle.px_meaning.specs.TypedProgram.{TypedProgram}
use Rattle.px_meaning.specs.TreeCalls.{TreeEvents}
use Rattle.px_meaning.specs.Fuller.{IsUnderstood}
use Rattle.px_replay.specs.Beginnings.{TreeBeginnings}

-- a mark that says all of its event: that of an input lacks the value, and that of a new block the number
abbrev pub SaysAll : MarkKind → Type 0
SaysAll Input = ⊥
SaysAll Got = ⊥
SaysAll Then = ⊤
SaysAll Else = ⊤
SaysAll Iter = ⊤
SaysAll Done = ⊤
SaysAll NoBlock = ⊤
SaysAll Access = ⊤
SaysAll Freed = ⊤
SaysAll FreeNull = ⊤
SaysAll (Enter proc) = ⊤
SaysAll Leave = ⊤

-- the least number that isn't taken
abbrev pub IsLeast : (ℕ → Type 0) → ℕ → Type 0
IsLeast taken n = (taken n → ⊥) × ((m : ℕ) → m < n → taken m)

-- Events follow a trace: they have its marks, the values that are read are the first of the inputs, in order, and
-- each new block has the least number that isn't taken. Inputs may be left over.
abbrev pub Follows : (ℕ → Type 0) → List ℤ → List Mark → List Event → Type 0
Follows taken inputs [] [] = ⊤
Follows taken inputs [] (e ∷ events) = ⊥
Follows taken inputs (m ∷ trace) [] = ⊥
Follows taken inputs (m ∷ trace) (marks k ∷ events) = (k ≡ m) × SaysAll m.kind × Follows taken inputs trace events
Follows taken [] (m ∷ trace) (reads site z ∷ events) = ⊥
Follows taken (i ∷ inputs) (m ∷ trace) (reads site z ∷ events) = (mark Input site ≡ m) × (z ≡ i) × Follows taken inputs trace events
Follows taken inputs (m ∷ trace) (makes site n ∷ events) =
    (mark Got site ≡ m) × IsLeast taken n × Follows (λ k. taken k ⊎ (k ≡ n)) inputs trace events

-- the numbers of the blocks of a heap
abbrev pub IsTaken : HeapMap → ℕ → Type 0
IsTaken heap n = (b : HeapBlock) × (heap n ≡ Some b)

-- whether a number is that of a block
abbrev pub HasNumber : HeapMap → ℕ → Bool → Type 0
HasNumber heap n true = IsTaken heap n
HasNumber heap n false = IsTaken heap n → ⊥

-- a call of the procedure follows the whole trace and ends so; none ends at what isn't understood
abbrev pub IsFollowed : TypedProgram → ℕ → List Value → HeapMap → List ℤ → List Mark → Ending → HeapMap → Type 0
IsFollowed P f arguments heap inputs trace ending end =
    (events : List Event) × Follows (IsTaken heap) inputs trace events × TreeEvents P f arguments heap events ending end × IsUnderstood ending

-- a call that is under way follows these marks
abbrev pub IsBegun : TypedProgram → ℕ → List Value → HeapMap → List ℤ → List Mark → Type 0
IsBegun P f arguments heap inputs trace =
    (events : List Event) × Follows (IsTaken heap) inputs trace events × TreeBeginnings P f arguments heap events

-- The trace departs at this mark: no call follows it whole, one that is under way follows the marks before, and
-- none follows this one too, if the trace has it.
pub record DepartsAt (P : TypedProgram) (f : ℕ) (arguments : List Value) (heap : HeapMap) (inputs : List ℤ) (trace : List Mark) (at : ℕ) : Type 0 where
  pub within : at ≤ length trace
  pub before : IsBegun P f arguments heap inputs (take at trace)
  pub not_with : at < length trace → IsBegun P f arguments heap inputs (take (suc at) trace) → ⊥
  pub not_whole : (ending : Ending) (end : HeapMap) → IsFollowed P f arguments heap inputs trace ending end → ⊥
