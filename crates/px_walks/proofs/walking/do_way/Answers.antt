use Rattle.std.proofs.Common.{ap, sym, ◌∙◌, Some}
use Rattle.std.proofs.lemmas.Result.{IfOk-weaker}
use Rattle.px_callgraph.specs.JobTree.{job_tree}
use Rattle.px_walks.specs.Items.{items_of}
use Rattle.px_walks.specs.Walks.{call_in}
use Rattle.px_walks.proofs.LedFacts.{no_call, some_call}
use Rattle.px_walks.proofs.walking.do_way.Goals as goal

pub returns-in-None-clause-leads : goal.returns-in-None-clause-leads
returns-in-None-clause-leads c =
    let a = c.args in
    IfOk-weaker c.do_item.result _ _
    (λ to e. no_call (job_tree a.job.now) (call_in a.call.now) (items_of a.control.now.items) a.state.now a.way _ (ap call_in (sym c.take.ensures.value ∙ c.in-None.is)) e)
    c.do_item.ensures.leads

pub returns-in-Some-clause-leads : goal.returns-in-Some-clause-leads
returns-in-Some-clause-leads c =
    let a = c.args in
    IfOk-weaker c.do_call.result _ _
    (λ to e. some_call (job_tree a.job.now) (call_in a.call.now) c.into_inner.result (items_of a.control.now.items) a.state.now a.way _ (ap call_in (sym c.take.ensures.value ∙ c.in-Some.is) ∙ ap Some (sym c.into_inner.ensures)) (e (items_of a.control.now.items)))
    c.do_call.ensures.leads
