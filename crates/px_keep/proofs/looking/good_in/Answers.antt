use Rattle.std.proofs.Common.{refl}
use Rattle.px_callgraph.specs.JobTree.{job_tree}
use Rattle.px_keep.specs.Lent.{item_of}
use Rattle.px_keep.proofs.GoodLemmas.{faulty}
use Rattle.px_keep.proofs.looking.good_in.Goals as goal

pub returns-else-is_memory-clause-none : goal.returns-else-is_memory-clause-none
returns-else-is_memory-clause-none c =
    let fault = c.in-Err.ensures.fault c.in-Err.why refl in
    faulty (job_tree c.args.job.now) c.requires.ticket (item_of c.args.item.now) c.in-Err.why (c.is_memory.ensures c.if-is_memory.false (job_tree c.args.job.now) c.args.item.now.given.now fault) fault
