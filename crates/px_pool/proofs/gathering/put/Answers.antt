use Rattle.px_callgraph.specs.JobTree.{job_tree}
use Rattle.px_pool.proofs.GatheringLemmas.{begun, goes_on, lost_on}
use Rattle.px_pool.proofs.gathering.put.Goals as goal

pub returns-in-Unbegun : goal.returns-in-Unbegun
returns-in-Unbegun c parts standing = begun (job_tree c.args.job.now) c.args.version parts c.args.part c.args.standing c.begin.result c.in-Unbegun.is standing c.begin.ensures

pub returns-in-Open : goal.returns-in-Open
returns-in-Open c parts standing = goes_on (job_tree c.args.job.now) c.args.version parts c.args.part c.args.standing c.go_on.result c.in-Open.gathering c.in-Open.is standing (c.go_on.ensures c.args.version)

pub returns-in-Lost : goal.returns-in-Lost
returns-in-Lost c parts standing = lost_on (job_tree c.args.job.now) c.args.version parts c.args.part c.args.standing c.in-Lost.why c.in-Lost.is standing
