use Rattle.px_callgraph.specs.JobTree.{job_tree}
use Rattle.px_pool.proofs.GatheringLemmas.{head_first, large_first, other_first, other_head, other_large}
use Rattle.px_pool.proofs.gathering.begin.Goals as goal

pub returns-then-own-version : goal.returns-then-own-version
returns-then-own-version c =
    other_head (job_tree c.args.job.now) c.args.version c.args.part c.in-Head.own c.in-Head.ticket c.in-Head.kinds c.in-Head.is c.if-own-version.true

pub returns-in-Head : goal.returns-in-Head
returns-in-Head c =
    head_first (job_tree c.args.job.now) c.args.version c.args.part c.in-Head.own c.in-Head.ticket c.in-Head.kinds c.begin_reply.result c.in-Head.is c.if-own-version.false c.begin_reply.ensures

pub returns-then-own-version-2 : goal.returns-then-own-version-2
returns-then-own-version-2 c =
    other_large (job_tree c.args.job.now) c.args.version c.args.part c.in-Large.own c.in-Large.ticket c.in-Large.is c.if-own-version-2.true

pub returns-in-Large : goal.returns-in-Large
returns-in-Large c =
    large_first (job_tree c.args.job.now) c.args.version c.args.part c.in-Large.own c.in-Large.ticket c.begin_large.result c.in-Large.is c.if-own-version-2.false c.begin_large.ensures

pub returns : goal.returns
returns c = other_first (job_tree c.args.job.now) c.args.version c.args.part c.in_default.not-Head c.in_default.not-Large
