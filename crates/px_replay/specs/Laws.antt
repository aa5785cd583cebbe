-- Laws of following, and of replays.
use Rattle.std.specs.Prelude.{◌≡◌, ℕ, ℤ, ◌+◌, ◌-◌, ◌≤◌, List, [], ◌++◌, take, length, Result, Ok, Err}
use Rattle.px_base.specs.declared.trace.Mark.{Mark}
use Rattle.px_meaning.specs.Values.{Value}
use Rattle.px_meaning.specs.Heaps.{HeapMap}
use Rattle.px_meaning.specs.Calls.{error, Ending, Returned, Failed}
use Rattle.px_meaning.specs.TypedProgram.{TypedProgram}
use Rattle.px_replay.specs.declared.stop.Stop.{Stop}
use Rattle.px_replay.specs.declared.stop.Stop.TheVariants as stop
use Rattle.px_replay.specs.Following.{IsFollowed, IsBegun, DepartsAt}
use Rattle.px_replay.specs.Script.{PlainScript}
use Rattle.px_replay.specs.TreeReplay.{CallsReplay}

-- at most one execution follows a trace with these inputs
abbrev pub FollowedIsOne : Type 0
FollowedIsOne = (P : TypedProgram) (f : ℕ) (arguments : List Value) (heap : HeapMap) (inputs : List ℤ) (trace : List Mark)
    (ending ending' : Ending) (end end' : HeapMap) → IsFollowed P f arguments heap inputs trace ending end →
    IsFollowed P f arguments heap inputs trace ending' end' → (ending ≡ ending') × (end ≡ end')

-- the ending that a replay's answer says
abbrev pub EndsSo : Result Value Stop → Ending → Type 0
EndsSo (Ok v) ending = ending ≡ Returned v
EndsSo (Err (stop.Failed kind site)) ending = ending ≡ Failed (error kind) site
EndsSo (Err stop.Departs) ending = ⊥
EndsSo (Err stop.NoMemory) ending = ⊥

-- What a replay took of a script is reached: a call that is under way follows these marks, and where the answer says
-- an ending, a call follows them and ends so.
pub record IsReached (P : TypedProgram) (f : ℕ) (arguments : List Value) (s : PlainScript) (answer : Result Value Stop) (left : PlainScript) : Type 0 where
  pub taken : List Mark
  pub whole : s.marks ≡ taken ++ left.marks
  pub begun : IsBegun P f arguments s.heap s.inputs taken
  pub ends : (ending : Ending) → EndsSo answer ending → IsFollowed P f arguments s.heap s.inputs taken ending left.heap

abbrev pub ReplayReaches : Type 0
ReplayReaches = (P : TypedProgram) (n f : ℕ) (arguments : List Value) (s : PlainScript) (answer : Result Value Stop) (left : PlainScript) →
    CallsReplay P n f arguments s answer left → IsReached P f arguments s answer left

-- What follows a script is confined to what a replay took of it: a call that follows it whole ends as the replay, which
-- left no mark, and one that is under way follows no more marks than the replay took.
pub record IsConfined (P : TypedProgram) (f : ℕ) (arguments : List Value) (s : PlainScript) (answer : Result Value Stop) (left : PlainScript) : Type 0 where
  pub only : (ending : Ending) (end : HeapMap) → IsFollowed P f arguments s.heap s.inputs s.marks ending end → (left.marks ≡ []) × EndsSo answer ending × (end ≡ left.heap)
  pub no_further : (at : ℕ) → at ≤ length s.marks → IsBegun P f arguments s.heap s.inputs (take at s.marks) → at + length left.marks ≤ length s.marks

abbrev pub ReplayConfines : Type 0
ReplayConfines = (P : TypedProgram) (n f : ℕ) (arguments : List Value) (s : PlainScript) (answer : Result Value Stop) (left : PlainScript) →
    CallsReplay P n f arguments s answer left → IsConfined P f arguments s answer left

-- A replay that left no mark and whose answer says an ending is that of a call that follows the script; any other
-- departs after the marks that it took.
pub record IsDecided (P : TypedProgram) (f : ℕ) (arguments : List Value) (s : PlainScript) (answer : Result Value Stop) (left : PlainScript) : Type 0 where
  pub followed : (ending : Ending) → EndsSo answer ending → left.marks ≡ [] → IsFollowed P f arguments s.heap s.inputs s.marks ending left.heap
  pub departs : ((ending : Ending) → EndsSo answer ending → left.marks ≡ [] → ⊥) → DepartsAt P f arguments s.heap s.inputs s.marks (length s.marks - length left.marks)

abbrev pub ReplayDecides : Type 0
ReplayDecides = (P : TypedProgram) (n f : ℕ) (arguments : List Value) (s : PlainScript) (answer : Result Value Stop) (left : PlainScript) →
    CallsReplay P n f arguments s answer left → IsDecided P f arguments s answer left
