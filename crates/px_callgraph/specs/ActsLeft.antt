-- How many acts a path may still have. Each mark and each command of a path allows a fixed number of acts, and what
-- stands in the way of a loop or a call that is going on allows some more.
use Rattle.std.specs.Prelude.{ℕ, suc, ◌+◌, ◌-◌, ◌*◌, ◌<◌, max, List, [], ◌∷◌, length, Option, Some, None, ⊤}
use Rattle.px_base.specs.Bounds.{most_marks, most_steps}
use Rattle.px_base.specs.declared.trace.ProcId.{ProcId}
use Rattle.px_core.specs.Control.{Item, Act, AfterHead, AfterBody, AfterStep}
use Rattle.px_callgraph.specs.declared.jobs.Callee.{Callee}
use Rattle.px_callgraph.specs.declared.states.State.{State}
use Rattle.px_callgraph.specs.JobTree.{JobTree}
use Rattle.px_callgraph.specs.Calls.{Calling, Stage, choosing, matching, unfit}
use Rattle.px_callgraph.specs.declared.outcomes.StepOutcome.TheVariants.{Next, Ends, Cut, Past}
use Rattle.px_callgraph.specs.Alternatives.{Walk, Leads, longest_pre}

-- the most atoms that an entry of a callee requires
abbrev pub most_required : List (ProcId × Callee) → ℕ
most_required [] = 0
most_required (c ∷ rest) = max (longest_pre c.1) (most_required rest)

-- an entry, a case for each atom that it requires, and what follows them
abbrev pub stage_acts : JobTree → Stage → ℕ
stage_acts j choosing = 2 + most_required j.callees
stage_acts j (matching x σ required used) = 1 + length required
stage_acts j unfit = 0

abbrev pub call_acts_left : JobTree → Option (Calling × Stage) → ℕ
call_acts_left j None = 0
call_acts_left j (Some c) = stage_acts j c.1

-- up to the end of the head of each open loop, where the path has a mark more
abbrev pub control_acts : List Item → ℕ
control_acts [] = 0
control_acts (Act c ∷ k) = control_acts k
control_acts (AfterHead l ∷ k) = 1 + control_acts k
control_acts (AfterStep l ∷ k) = 2 + control_acts k
control_acts (AfterBody l ∷ k) = 3 + control_acts k

-- what a mark or a command allows: a whole call, which is more than a turn of a loop
abbrev pub acts_each : JobTree → ℕ
acts_each j = 3 + most_required j.callees

-- No path from there has more acts.
unfoldable pub acts_left : JobTree → Walk → ℕ
acts_left j w =
    (acts_each j * (most_marks - length w.state.trace) + acts_each j * (most_steps - w.state.steps)) + (call_acts_left j w.call + control_acts w.control)

-- with an act for the place of the path itself; none where it has ended
abbrev pub acts_left_of : JobTree → Leads → ℕ
acts_left_of j (Next w) = suc (acts_left j w)
acts_left_of j (Ends s exit result) = 0
acts_left_of j (Cut s gap) = 0
acts_left_of j (Past s) = 0

-- the state where an act leads; of a drop the one before it
abbrev pub state_of : Leads → State
state_of (Next w) = w.state
state_of (Ends s exit result) = s
state_of (Cut s gap) = s
state_of (Past s) = s

-- it has ended, or fewer acts than n are left
abbrev pub FallsBelow : JobTree → ℕ → Leads → Type 0
FallsBelow j n (Next w) = acts_left j w < n
FallsBelow j n (Ends s exit result) = ⊤
FallsBelow j n (Cut s gap) = ⊤
FallsBelow j n (Past s) = ⊤
