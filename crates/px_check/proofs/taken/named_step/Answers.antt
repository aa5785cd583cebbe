use Rattle.px_callgraph.specs.JobTree.{job_tree}
use Rattle.px_walks.specs.Walks.{walk_of}
use Rattle.px_check.specs.Leading.{leads_at}
use Rattle.px_check.proofs.TurnLemmas.{named_takes}
use Rattle.px_check.proofs.taken.named_step.Goals as goal

pub returns : goal.returns
returns c =
    named_takes (job_tree c.args.job.now) (walk_of c.args.walk.now) c.args.next c.requires.next.0 c.requires.next.1 (leads_at (walk_of c.take_named.new.walk)) c.take_named.result c.args.step.now.rule c.args.step.now.choices
    c.as_slice.result.now c.as_slice-2.result.now c.named_way-named.result c.requires.other c.as_slice.ensures c.as_slice-2.ensures (c.named_way-named.ensures c.requires.next.0) c.take_named.ensures
