-- Where an act of a call leads that leaves this state in its caller's place.
use Rattle.px_callgraph.specs.declared.states.State.{State}
use Rattle.px_callgraph.specs.declared.outcomes.StepOutcome.{StepOutcome}
use Rattle.px_callgraph.specs.declared.outcomes.StepOutcome.TheVariants.{Next, Ends, Cut, Past}
use Rattle.px_calls.specs.declared.call.CallProgress.{CallProgress}
use Rattle.px_calls.specs.declared.led.CallLed.{CallLed}
use Rattle.px_calls.specs.declared.led.CallLed.TheVariants as act

abbrev pub progress_at : CallLed → State → StepOutcome CallProgress
progress_at (act.Goes call) t = Next (record { state = t; call = call })
progress_at (act.Ends exit result) t = Ends t exit result
progress_at (act.Cut gap) t = Cut t gap
progress_at act.Past t = Past t
