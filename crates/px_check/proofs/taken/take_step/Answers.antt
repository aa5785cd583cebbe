use Rattle.std.proofs.Common.{◌∙◌}
use Rattle.px_callgraph.specs.JobTree.{job_tree}
use Rattle.px_walks.specs.Walks.{walk_of}
use Rattle.px_check.proofs.TurnLemmas.{next_call}
use Rattle.px_check.proofs.taken.take_step.Goals as goal

pub call_step-requires : goal.call_step-requires
call_step-requires c =
    next_call (job_tree c.args.job.now) (walk_of c.args.walk.now) c.args.next c.requires.0 c.requires.1 c.is_call.result (c.is_call.ensures c.requires.0) ∙ c.if-is_call.true

pub named_step-requires-clause-other : goal.named_step-requires-clause-other
named_step-requires-clause-other c =
    next_call (job_tree c.args.job.now) (walk_of c.args.walk.now) c.args.next c.requires.0 c.requires.1 c.is_call.result (c.is_call.ensures c.requires.0) ∙ c.if-is_call.false
