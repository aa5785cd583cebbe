use Rattle.std.proofs.Common.{[], ◌∙◌}
use Rattle.std.proofs.lemmas.Result.{IfOk-weaker}
use Rattle.px_callgraph.specs.JobTree.{job_tree}
use Rattle.px_calls.specs.Calls.{call_of, with_call}
use Rattle.px_walks.specs.Walks.{call_in}
use Rattle.px_walks.proofs.FewLemmas.{few_call}
use Rattle.px_walks.proofs.walking.do_call.Goals as goal

pub returns-clause-leads : goal.returns-clause-leads
returns-clause-leads c = IfOk-weaker c.go_on_calling.result _ _ (λ to e k. e k c.call_act_in.new.state ∙ c.in_ok-led.ensures.leads k) c.go_on_calling.ensures

pub returns-clause-few : goal.returns-clause-few
returns-clause-few c =
    let a = c.args in
    let t = c.call_act_in.new.state in
    IfOk-weaker c.go_on_calling.result _ _
    (λ to e. few_call (job_tree a.job.now) a.state.now (call_of a.going).0 [] (call_of a.going).1 a.way (with_call (call_in c.go_on_calling.new.call) [] t) to c.requires (e [] t ∙ c.in_ok-led.ensures.leads []))
    c.go_on_calling.ensures
