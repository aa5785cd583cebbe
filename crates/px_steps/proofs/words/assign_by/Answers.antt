use Rattle.std.proofs.Common.{◌∙◌}
use Rattle.std.proofs.lemmas.Result.{IfOk-weaker}
use Rattle.px_steps.proofs.LongLemmas.{made_led}
use Rattle.px_steps.proofs.words.assign_by.Goals as goal

pub returns-in-Made : goal.returns-in-Made
returns-in-Made c =
    let a = c.args in
    IfOk-weaker c.give.result _ _ (λ x e o terms h. e ∙ made_led a.state.now a.to a.operated c.in-Made.made o terms c.in-Made.is h) c.give.ensures
