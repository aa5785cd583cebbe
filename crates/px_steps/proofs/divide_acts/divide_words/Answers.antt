use Rattle.std.proofs.Common.{◌∙◌, ap, sym}
use Rattle.std.proofs.lemmas.Result.{IfOk-weaker}
use Rattle.px_callgraph.specs.States.{begun}
use Rattle.px_callgraph.specs.Commands.{words_divided}
use Rattle.px_steps.specs.Led.{led_of}
use Rattle.px_steps.proofs.divide_acts.divide_words.Goals as goal

pub returns-in-Divided : goal.returns-in-Divided
returns-in-Divided c =
    let a = c.args in
    IfOk-weaker c.by_other.result _ _
    (λ r e. e a.site ∙ ap (λ w. led_of a.state.now (words_divided a.to a.site w (begun a.state.now) a.p.now a.q.now)) (sym c.in-Divided.is)) c.by_other.ensures
