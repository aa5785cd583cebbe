use Rattle.std.proofs.Common.{sym}
use Rattle.std.proofs.lemmas.Result.{IfOk-weaker}
use Rattle.px_callgraph.specs.JobTree.{job_tree}
use Rattle.px_calls.specs.Calls.{calling_of}
use Rattle.px_calls.specs.Progress.{progress_at}
use Rattle.px_calls.proofs.RequiredLemmas.{act_required, act_finished}
use Rattle.px_calls.proofs.acts.matching_act.Goals as goal

pub returns-in-Some-clause-leads : goal.returns-in-Some-clause-leads
returns-in-Some-clause-leads c =
    let a = c.args in
    IfOk-weaker c.meet.result _ _
    (λ r t k. act_required (job_tree a.job.now) a.state.now (calling_of a.calling) a.entry.now a.progress c.in-Some.required.now a.way k c.as_slice.result.now (progress_at r c.meet.new.state) (sym c.in-Some.ensures) c.as_slice.ensures (t.0 k))
    c.meet.ensures

pub returns-in-None-clause-leads : goal.returns-in-None-clause-leads
returns-in-None-clause-leads c =
    let a = c.args in
    IfOk-weaker c.finish.result _ _
    (λ r q k. act_finished (job_tree a.job.now) a.state.now (calling_of a.calling) a.entry.now a.progress a.way k (progress_at r c.finish.new.state) (sym c.in-None.ensures) (q k))
    c.finish.ensures.leads
