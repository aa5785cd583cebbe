use Rattle.std.proofs.lemmas.Result.{IfOk-weaker}
use Rattle.px_calls.specs.Progress.{progress_at}
use Rattle.px_calls.proofs.FinishLemmas.{fail_cut, fail_led}
use Rattle.px_calls.proofs.finishing.fail_by.Goals as goal

pub returns-in-Some-clause-leads : goal.returns-in-Some-clause-leads
returns-in-Some-clause-leads c =
    let a = c.args in
    IfOk-weaker c.cut.result _ _
    (λ r q to σ k h.
    fail_cut a.state.now σ a.entry.now a.used.now a.said to a.kind a.site c.in-Some.passed k c.growth_of-growth.result c.len.result (progress_at r a.state.now) q c.in-Some.ensures.first c.growth_of-growth.ensures c.len.ensures h)
    c.cut.ensures

pub returns-clause-leads : goal.returns-clause-leads
returns-clause-leads c = λ to σ k h.
    let a = c.args in
    fail_led a.state.now c.apply.new.state σ a.entry.now a.used.now a.said to a.kind a.site k c.growth_of-growth.result c.len.result c.as_slice.result.now c.in-None.ensures.first c.growth_of-growth.ensures c.len.ensures
    c.in_ok-apply-in-None.ensures c.as_slice.ensures h
