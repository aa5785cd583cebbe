use Rattle.std.proofs.Common.{ap, sym, ◌∙◌}
use Rattle.std.proofs.lemmas.Result.{IfOk-weaker}
use Rattle.px_callgraph.specs.JobTree.{job_tree}
use Rattle.px_callgraph.specs.Alternatives.{stage_ways}
use Rattle.px_ways.specs.Listed.{lists}
use Rattle.px_calls.specs.Calls.{calling_of, stage_of}
use Rattle.px_calls.proofs.names.is_call_way.Goals as goal

pub returns-in-Matching : goal.returns-in-Matching
returns-in-Matching c =
    let a = c.args in
    IfOk-weaker c.is_matching_way.result _ _
    (λ r e. e (job_tree a.job.now) (calling_of a.call.now.calling) ∙ ap (λ z. lists (stage_ways (job_tree a.job.now) a.state.now (calling_of a.call.now.calling) (stage_of z)) a.way) (sym c.in-Matching.is))
    c.is_matching_way.ensures
