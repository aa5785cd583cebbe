use Rattle.std.proofs.Common.{◌∙◌}
use Rattle.std.proofs.lemmas.Result.{IfOk-weaker}
use Rattle.px_callgraph.specs.States.{begun, marked}
use Rattle.px_steps.proofs.LongLemmas.{assumes_led}
use Rattle.px_steps.proofs.test_acts.test_by.Goals as goal

pub returns-in-Assumes : goal.returns-in-Assumes
returns-in-Assumes c =
    let a = c.args in
    let m = marked a.kind a.site (begun a.state.now) in
    IfOk-weaker c.assume_outcome.result _ _ (λ x e o h. e ∙ assumes_led a.state.now m a.to a.outcome a.compared c.in-Assumes.conjunct o c.in-Assumes.is h) c.assume_outcome.ensures
