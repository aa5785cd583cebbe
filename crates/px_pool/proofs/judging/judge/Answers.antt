use Rattle.px_callgraph.specs.JobTree.{job_tree}
use Rattle.px_pool.proofs.GatheringLemmas.{judged_still, judged_next}
use Rattle.px_pool.proofs.judging.judge.Goals as goal

pub returns-in-Some : goal.returns-in-Some
returns-in-Some c done ds judged =
    judged_still (job_tree c.args.job.now) done ds c.args.checked.now c.args.checked.now c.args.entry c.args.derivation.now c.args.refused c.in-Some.refusal c.in-Some.is judged

pub returns-in-None : goal.returns-in-None
returns-in-None c =
    judged_next (job_tree c.args.job.now) c.args.checked.now c.check_next.new.checked c.args.entry c.args.derivation.now c.args.refused c.check_next.result c.in-None.is c.check_next.ensures
