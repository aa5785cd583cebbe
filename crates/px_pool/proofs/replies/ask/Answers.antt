use Rattle.px_callgraph.specs.JobTree.{job_tree}
use Rattle.px_pool.proofs.PieceLemmas.{replied_after, not_sent}
use Rattle.px_pool.proofs.replies.ask.Goals as goal

pub returns-in-Ok-clause-replied : goal.returns-in-Ok-clause-replied
returns-in-Ok-clause-replied g c =
    replied_after c.args.version (job_tree c.args.job.now) (g.K.Link.told c.args.link.now) (g.K.Link.told c.send.new.self) (g.K.Link.told c.read_reply.new.link) c.args.framed.now c.read_reply.result c.in-Ok.ensures.sent c.read_reply.ensures.replied

pub returns-in-Err-clause-replied : goal.returns-in-Err-clause-replied
returns-in-Err-clause-replied g c = not_sent c.args.version (job_tree c.args.job.now) (g.K.Link.told c.args.link.now) (g.K.Link.told c.send.new.self) c.args.framed.now c.in-Err.ensures.part
