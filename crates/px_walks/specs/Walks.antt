-- Walks and where they lead, as plain data.
use Rattle.std.specs.Prelude.{Option, Some, None, option_map, Box}
use Rattle.px_callgraph.specs.declared.outcomes.StepOutcome.{StepOutcome}
use Rattle.px_callgraph.specs.declared.outcomes.StepOutcome.TheVariants.{Next, Ends, Cut, Past}
use Rattle.px_callgraph.specs.Outcomes.{map_next}
use Rattle.px_callgraph.specs.Alternatives as W
use Rattle.px_calls.specs.declared.call.Call.{Call}
use Rattle.px_calls.specs.Calls.{with_call}
use Rattle.px_steps.specs.declared.led.Led.{Led}
use Rattle.px_steps.specs.declared.led.Led.TheVariants as act
use Rattle.px_walks.specs.Items.{items_of}
use Rattle.px_walks.specs.declared.walk.Walk.{Walk}

-- the call that is going on, if one is
abbrev pub call_in : {A : Type 0} → Option (Box Call A) → Option Call
call_in = option_map (λ b. b.value)

abbrev pub walk_of : Walk → W.Walk
walk_of w = with_call (call_in w.call) (items_of w.control.items) w.state

abbrev pub leads_of : StepOutcome Walk → W.Leads
leads_of = map_next walk_of

-- where an act leads that leaves this walk in its place; past a bound, and where a jump has no loop, it leads nowhere
abbrev pub at_walk : Option Led → W.Walk → W.Leads
at_walk None w = Past w.state
at_walk (Some act.Goes) w = Next w
at_walk (Some (act.Ends exit result)) w = Ends w.state exit result
at_walk (Some (act.Cut gap)) w = Cut w.state gap
