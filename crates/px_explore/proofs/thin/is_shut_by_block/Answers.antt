use Rattle.std.proofs.lemmas.Result.{IfOk-weaker}
use Rattle.px_callgraph.specs.JobTree.{job_tree}
use Rattle.px_walks.specs.Walks.{walk_of}
use Rattle.px_explore.proofs.MissedLemmas.{shut_missed}
use Rattle.px_explore.proofs.thin.is_shut_by_block.Goals as goal

pub is_against_block-requires-clause-met : goal.is_against_block-requires-clause-met
is_against_block-requires-clause-met c = c.in-Some.ensures.may_be

pub returns-in-Some-clause-shut : goal.returns-in-Some-clause-shut
returns-in-Some-clause-shut c =
    let j = job_tree c.args.job.now in
    let w = walk_of c.args.walk.now in
    let m = c.in-Some.met in IfOk-weaker c.is_against_block.result _ _ (λ yes h e places. shut_missed j w c.args.way m places c.in-Some.ensures (h e j.kinds)) c.is_against_block.ensures.against
