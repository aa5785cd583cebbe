-- A block that an entry requires is met.
use Rattle.std.specs.Prelude.{◌≡◌, ◌+◌, ◌<◌, ◌^◌, ℕ, List, [], ◌∷◌, ◌++◌, length, drop, Option}
use Rattle.px_terms.specs.declared.types.BlockType.{BlockType}
use Rattle.px_terms.specs.declared.conjuncts.Place.{Place}
use Rattle.px_entry.specs.declared.atoms.Atom.{Atom}
use Rattle.px_entry.specs.Regular.{state_cells}
use Rattle.px_core.specs.Control.{Item}
use Rattle.px_callgraph.specs.declared.states.State.{State}
use Rattle.px_callgraph.specs.declared.states.Way.{Way}
use Rattle.px_callgraph.specs.Renaming.{stand_cells}
use Rattle.px_callgraph.specs.Calls as C
use Rattle.px_callgraph.specs.declared.outcomes.StepOutcome.TheVariants as outcome
use Rattle.px_callgraph.specs.Alternatives as W
use Rattle.px_entry.specs.declared.entries.Entry.{Entry}
use Rattle.px_calls.specs.declared.meeting.Progress.{Progress}
use Rattle.px_callgraph.specs.declared.outcomes.StepOutcome.{StepOutcome}
use Rattle.px_calls.specs.declared.call.CallProgress.{CallProgress}
use Rattle.px_calls.specs.Calls.{called, IsFewCalled}

-- how far a call is where the blocks are met so far
abbrev pub stage_at : Entry → Progress → C.Stage
stage_at x g = C.matching x g.substitution.items (drop g.met x.pre) g.used.items

-- how far a call is where one more block is that of the atom b with the number n
abbrev pub met_stage : Entry → Progress → Atom → Atom → ℕ → C.Stage
met_stage x g p b n =
    C.matching x (g.substitution.items ++ stand_cells (state_cells p.state) (state_cells b.state)) (drop (g.met + 1) x.pre) (g.used.items ++ n ∷ [])

-- what a call comes to where the next block is met
abbrev pub taken_atom : Entry → Progress → Atom → ℕ → Place → Option Atom → State → C.Taken
taken_atom x g p n a o s = C.take_atom x g.substitution.items (drop (g.met + 1) x.pre) g.used.items p n a o s

abbrev pub taken_missing : List BlockType → Entry → Progress → Atom → Place → State → C.Taken
taken_missing types x g p a s = C.take_missing types x g.substitution.items (drop (g.met + 1) x.pre) g.used.items p a s

abbrev pub taken_case : List BlockType → Entry → Progress → Atom → Way → Option Place → State → C.Taken
taken_case types x g p w o s = C.take_case types x g.substitution.items (drop (g.met + 1) x.pre) g.used.items p w o s

-- the call goes on from a state, where few blocks are met
abbrev pub IsStaying : State → C.Calling → C.Stage → StepOutcome CallProgress → Type 0
IsStaying s c stage to = ((k : List Item) → called k to ≡ outcome.Next (W.going_on c k s stage)) × (length s.atoms < 2 ^ 32 → IsFewCalled to)
