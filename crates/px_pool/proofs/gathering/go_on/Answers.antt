use Rattle.px_callgraph.specs.JobTree.{job_tree}
use Rattle.px_pool.proofs.GatheringLemmas.{open_still}
use Rattle.px_pool.proofs.gathering.go_on.Goals as goal

pub returns-in-Ok : goal.returns-in-Ok
returns-in-Ok c v parts opened = open_still (job_tree c.args.job.now) v parts c.args.part c.args.gathering c.in-Ok.more c.in-Ok.ensures opened

pub returns-in-Err : goal.returns-in-Err
returns-in-Err c v parts opened = c.in-Err.ensures v parts opened
