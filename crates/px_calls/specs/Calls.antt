-- Calls that are going on, and where they lead, as plain data.
use Rattle.std.specs.Prelude.{◌≡◌, ◌<◌, ◌^◌, List, length, drop, Option, Some, None, option_map}
use Rattle.px_core.specs.Control.{Item}
use Rattle.px_callgraph.specs.declared.jobs.Callee.{Callee}
use Rattle.px_callgraph.specs.declared.jobs.Callee.TheVariants.{Unknown}
use Rattle.px_callgraph.specs.declared.states.State.{State}
use Rattle.px_callgraph.specs.Calls as C
use Rattle.px_callgraph.specs.declared.outcomes.StepOutcome.{StepOutcome}
use Rattle.px_callgraph.specs.Outcomes.{map_next, IfNext}
use Rattle.px_callgraph.specs.Alternatives as W
use Rattle.px_calls.specs.declared.call.Calling.{Calling}
use Rattle.px_calls.specs.declared.call.Matching.{Matching}
use Rattle.px_calls.specs.declared.call.Stage.{Stage}
use Rattle.px_calls.specs.declared.call.Stage.TheVariants as S
use Rattle.px_calls.specs.declared.call.Call.{Call}
use Rattle.px_calls.specs.declared.call.CallProgress.{CallProgress}

abbrev pub calling_of : Calling → C.Calling
calling_of c = record { to = c.to; proc = c.proc; arguments = c.arguments; site = c.site }

abbrev pub matching_stage : Matching → C.Stage
matching_stage m = C.matching m.entry.now m.substitution.items (drop m.met m.entry.now.pre) m.used.items

abbrev pub stage_of : Stage → C.Stage
stage_of S.Choosing = C.choosing
stage_of (S.Matching m) = matching_stage m
stage_of S.Unfit = C.unfit

abbrev pub call_of : Call → C.Calling × C.Stage
call_of c = (calling_of c.calling, stage_of c.stage)

-- this call is going on, if one is, and this is still to be done
abbrev pub with_call : Option Call → List Item → State → W.Walk
with_call c k s = record { state = s; call = option_map call_of c; control = k }

-- where a call leads, when this is to be done after it
abbrev pub called : List Item → StepOutcome CallProgress → W.Leads
called k to = map_next (λ (p : CallProgress). with_call p.call k p.state) to

-- where the path goes on, it has met few blocks
abbrev pub IsFewCalled : StepOutcome CallProgress → Type 0
IsFewCalled to = IfNext to (λ (p : CallProgress). length p.state.atoms < 2 ^ 32)

-- the entry is met by the same blocks
pub record IsSameMatching (copy m : Matching) : Type 0 where
  pub entry : copy.entry.now ≡ m.entry.now
  pub substitution : copy.substitution.items ≡ m.substitution.items
  pub met : copy.met ≡ m.met
  pub used : copy.used.items ≡ m.used.items

-- what is known of a procedure, where the list may not name it
abbrev pub or_unknown : Option Callee → Callee
or_unknown None = Unknown
or_unknown (Some c) = c

-- the act of a block that is met leads there, and few blocks are met
abbrev pub IsTaking : State → C.Calling → C.Taken → StepOutcome CallProgress → Type 0
IsTaking s c t to = ((k : List Item) → called k to ≡ W.taking s c k t) × IsFewCalled to
