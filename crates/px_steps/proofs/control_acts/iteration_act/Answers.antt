use Rattle.std.proofs.Common.{ap, ◌∙◌}
use Rattle.px_steps.specs.Led.{led_of}
use Rattle.px_steps.proofs.LoopLemmas.{turn_is}
use Rattle.px_steps.proofs.control_acts.iteration_act.Goals as goal

pub returns-in_ok-led : goal.returns-in_ok-led
returns-in_ok-led c =
    let a = c.args in
    c.with_state.ensures ∙ c.in_ok-led.ensures ∙ ap (led_of a.state) (turn_is a.unroll a.made a.site a.state c.if-made-unroll.true)
