use Rattle.std.proofs.Common.{refl}
use Rattle.std.proofs.lemmas.Option.{slice_get_read}
use Rattle.px_callgraph.specs.JobTree.{job_tree}
use Rattle.px_walks.specs.Walks.{walk_of}
use Rattle.px_check.proofs.TurnLemmas.{not_taken, not_used, step_goes}
use Rattle.px_check.proofs.turns.step_turn.Goals as goal

pub returns-in_default-taken : goal.returns-in_default-taken
returns-in_default-taken c =
    not_taken (job_tree c.args.job.now) (walk_of c.args.walk.now) (walk_of c.take_step.new.walk) c.args.next c.requires.next.0 c.requires.next.1 c.requires.own c.args.steps.now c.args.place c.in-Some.step.now
    (slice_get_read c.args.steps.now _ c.args.place c.in-Some.step.now refl c.in-Some.ensures.lookup.3.0 c.in-Some.ensures.lookup.1)
    c.in_ok-taken.taken c.in_ok-taken.ensures c.in_default-taken.is

pub returns-in-Some-after_use : goal.returns-in-Some-after_use
returns-in-Some-after_use c =
    step_goes (job_tree c.args.job.now) (walk_of c.args.walk.now) (walk_of c.take_step.new.walk) c.args.next c.requires.next.0 c.requires.next.1 c.requires.own c.args.steps.now c.args.place c.in-Some.step.now
    (slice_get_read c.args.steps.now _ c.args.place c.in-Some.step.now refl c.in-Some.ensures.lookup.3.0 c.in-Some.ensures.lookup.1)
    c.in_ok-taken.taken c.in_ok-taken.ensures c.in-Some-taken.led c.use_rule-owed.result c.len-atom.result c.in-Some-taken.is
    (c.use_rule-owed.ensures c.requires.next.0) c.len-atom.ensures c.in-Some-after_use.behind c.in-Some-after_use.ensures

pub returns-in-None : goal.returns-in-None
returns-in-None c =
    not_used (job_tree c.args.job.now) (walk_of c.args.walk.now) (walk_of c.take_step.new.walk) c.args.next c.requires.next.0 c.requires.next.1 c.requires.own c.args.steps.now c.args.place c.in-Some.step.now
    (slice_get_read c.args.steps.now _ c.args.place c.in-Some.step.now refl c.in-Some.ensures.lookup.3.0 c.in-Some.ensures.lookup.1)
    c.in_ok-taken.taken c.in_ok-taken.ensures c.in-Some-taken.led c.use_rule-owed.result c.len-atom.result c.in-Some-taken.is
    (c.use_rule-owed.ensures c.requires.next.0) c.len-atom.ensures c.in-None.ensures
