-- Where one step leads, when what is still to be done after it doesn't matter.
use Rattle.std.specs.Prelude.{◌<◌, ◌^◌, length}
use Rattle.px_callgraph.specs.declared.states.State.{State}
use Rattle.px_callgraph.specs.declared.outcomes.StepOutcome.{StepOutcome}
use Rattle.px_callgraph.specs.States.{Done}
use Rattle.px_callgraph.specs.Outcomes.{IfNext}
use Rattle.px_callgraph.specs.declared.outcomes.StepOutcome.TheVariants.{Next, Ends, Cut}
use Rattle.px_callgraph.specs.Alternatives.{leads}
use Rattle.px_steps.specs.declared.led.Led.{Led}
use Rattle.px_steps.specs.declared.led.Led.TheVariants as act

-- where an act leads from the state before it
unfoldable pub led_of : State → Done → StepOutcome State
led_of s d = leads s d (λ t. t)

-- where the path goes on, it has met few blocks
abbrev pub IsFew : StepOutcome State → Type 0
IsFew a = IfNext a (λ (t : State). length t.atoms < 2 ^ 32)

-- where an act leads that leaves this state in its place
abbrev pub at_state : Led → State → StepOutcome State
at_state act.Goes t = Next t
at_state (act.Ends exit result) t = Ends t exit result
at_state (act.Cut gap) t = Cut t gap
