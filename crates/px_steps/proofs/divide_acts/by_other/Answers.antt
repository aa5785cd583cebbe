use Rattle.std.proofs.Common.{◌∙◌, None, Some}
use Rattle.std.proofs.lemmas.Result.{IfOk-weaker}
use Rattle.px_steps.proofs.DivideLemmas.{divided_led}
use Rattle.px_steps.proofs.divide_acts.by_other.Goals as goal

pub returns-in-Some : goal.returns-in-Some
returns-in-Some c =
    let a = c.args in
    IfOk-weaker c.give_quotient.result _ _
    (λ x e site. e ∙ divided_led a.state.now a.to a.p.now a.q.now (Some c.in-Some.content) c.in-Some.ensures c.keep_short.ensures c.keep_short-2.ensures site) c.give_quotient.ensures

pub returns-in-None : goal.returns-in-None
returns-in-None c =
    let a = c.args in
    IfOk-weaker c.make_quotient.result _ _
    (λ x e site. e ∙ divided_led a.state.now a.to a.p.now a.q.now None c.in-None.ensures c.keep_short.ensures c.keep_short-2.ensures site) c.make_quotient.ensures
