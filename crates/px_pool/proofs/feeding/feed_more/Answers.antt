use Rattle.px_callgraph.specs.JobTree.{job_tree}
use Rattle.px_pool.proofs.FeedingLemmas.{feeds_on, fed_still}
use Rattle.px_pool.proofs.feeding.feed_more.Goals as goal

pub returns-in-Open : goal.returns-in-Open
returns-in-Open c bytes left known within =
    feeds_on c.args.version (job_tree c.args.job.now) bytes c.args.piece.now left c.args.reader.now c.feed.new.reader c.args.fed c.feed.result c.in-Open.standing c.in-Open.is c.feed.ensures known within

pub returns-in-Done : goal.returns-in-Done
returns-in-Done c bytes left known within =
    fed_still c.args.version (job_tree c.args.job.now) bytes c.args.piece.now left c.args.reader.now c.args.reader.now c.args.fed c.in-Done.answer c.in-Done.is known within
