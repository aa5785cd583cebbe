use Rattle.std.proofs.Common.{arith}
use Rattle.std.proofs.lemmas.Result.{IfOk-weaker}
use Rattle.px_calls.specs.Calls.{calling_of}
use Rattle.px_calls.specs.Progress.{progress_at}
use Rattle.px_calls.proofs.FinishLemmas.{return_cut, return_led, return_few}
use Rattle.px_calls.proofs.finishing.return_from.Goals as goal

pub returns-in-Some-clause-leads : goal.returns-in-Some-clause-leads
returns-in-Some-clause-leads c =
    let a = c.args in
    IfOk-weaker c.cut.result _ _
    (λ r q k.
    return_cut a.state.now a.substitution.now a.entry.now a.used.now a.said (calling_of a.calling) c.in_ok-given.given c.in-Some.kind k c.growth_of-growth.result c.in_ok-marks.marks c.len.result (progress_at r a.state.now) q c.in-Some.ensures.first
    c.growth_of-growth.ensures c.in_ok-marks.ensures c.len.ensures c.requires.said c.in_ok-given.ensures)
    c.cut.ensures

pub returns-clause-leads : goal.returns-clause-leads
returns-clause-leads c = λ k.
    let a = c.args in
    return_led a.state.now c.apply.new.state c.mark.new.state c.keep_result.new.state a.substitution.now a.entry.now a.used.now a.said (calling_of a.calling) c.in_ok-given.given k c.growth_of-growth.result c.in_ok-marks.marks
    c.len.result c.as_slice.result.now c.in-None.ensures.first c.growth_of-growth.ensures c.in_ok-marks.ensures c.len.ensures c.in_ok-apply-in-None.ensures c.as_slice.ensures c.in_ok-mark-in-None.ensures c.keep_result.ensures
    c.requires.said c.in_ok-given.ensures

pub returns-clause-few : goal.returns-clause-few
returns-clause-few c =
    let a = c.args in
    return_few a.state.now c.apply.new.state c.mark.new.state c.keep_result.new.state a.entry.now a.used.now a.said a.calling.to c.in_ok-given.given.content a.calling.site c.growth_of-growth.result c.in_ok-marks.marks
    c.in_ok-given.given.long c.as_slice.result.now c.growth_of-growth.ensures (omega (arith, c.in-None.ensures)) c.in_ok-apply-in-None.ensures c.in_ok-mark-in-None.ensures c.keep_result.ensures
