use Rattle.std.proofs.Common.{true, false}
use Rattle.px_callgraph.specs.JobTree.{job_tree}
use Rattle.px_walks.specs.Walks.{walk_of}
use Rattle.px_check.proofs.TurnLemmas.{next_silent, for_steps}
use Rattle.px_check.proofs.turns.do_next.Goals as goal

pub silent_turn-requires : goal.silent_turn-requires
silent_turn-requires c =
    let next = c.next_item-next.ensures in
    next_silent (job_tree c.args.job.now) (walk_of c.args.walk.now) c.next_item-next.result next.0 next.1 c.is_silent.result true (c.is_silent.ensures next.0) c.if-is_silent.true

pub step_turn-requires-clause-own : goal.step_turn-requires-clause-own
step_turn-requires-clause-own c =
    let next = c.next_item-next.ensures in
    next_silent (job_tree c.args.job.now) (walk_of c.args.walk.now) c.next_item-next.result next.0 next.1 c.is_silent.result false (c.is_silent.ensures next.0) c.if-is_silent.false

pub returns-then-is_silent : goal.returns-then-is_silent
returns-then-is_silent c = for_steps (job_tree c.args.job.now) c.args.steps.now (walk_of c.args.walk.now) (walk_of c.silent_turn.new.walk) c.args.place c.silent_turn.result c.silent_turn.ensures
