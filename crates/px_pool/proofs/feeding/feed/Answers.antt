use Rattle.std.proofs.Common.{◌-◌, ◌++◌, length, refl, subst, Err}
use Rattle.px_callgraph.specs.JobTree.{job_tree}
use Rattle.px_parts.specs.Taking.{IsTaken}
use Rattle.px_parts.proofs.Following.{parts_follow}
use Rattle.px_pool.proofs.FeedingLemmas.{feeding_begins, one_more, opens_still, ends, refuses_all}
use Rattle.px_pool.proofs.feeding.feed.Goals as goal

pub loop-answer-init : goal.loop-answer-init
loop-answer-init c bytes left parts given standing within = feeding_begins c.args.version (job_tree c.args.job.now) bytes c.args.piece.now left parts c.args.reader.now c.args.standing given standing within

pub loop-answer-preserved : goal.loop-answer-preserved
loop-answer-preserved c bytes left parts given standing within =
    one_more c.args.version (job_tree c.args.job.now) (bytes ++ c.args.piece.now) (left - length c.args.piece.now) c.loop-answer.rest.now c.loop-answer.reader c.take.new.self c.loop-answer.standing
    (c.loop-answer.invariant bytes left parts given standing within)
    c.in-Ok.answer c.in-Ok.answer.part c.in-More.next refl c.in-Ok.ensures c.in-More.ensures.turn c.in-More.ensures.standing

pub loop-answer-smaller : goal.loop-answer-smaller
loop-answer-smaller c = parts_follow.fewer c.loop-answer.rest.now c.loop-answer.reader c.take.new.self c.in-Ok.answer c.in-Ok.ensures c.in-More.ensures.turn

pub returns-in-Held : goal.returns-in-Held
returns-in-Held c bytes left parts given standing within =
    opens_still c.args.version (job_tree c.args.job.now) (bytes ++ c.args.piece.now) (left - length c.args.piece.now) c.loop-answer.rest.now c.loop-answer.reader c.take.new.self c.loop-answer.standing
    (c.loop-answer.invariant bytes left parts given standing within)
    c.in-Ok.answer c.in-Held.last c.in-Held.ensures.turn c.in-Ok.ensures c.in-Held.ensures.standing

pub returns-in-Ended : goal.returns-in-Ended
returns-in-Ended c bytes left parts given standing within =
    ends c.args.version (job_tree c.args.job.now) (bytes ++ c.args.piece.now) (left - length c.args.piece.now) c.loop-answer.rest.now c.loop-answer.reader c.take.new.self c.loop-answer.standing
    (c.loop-answer.invariant bytes left parts given standing within)
    c.in-Ok.answer c.in-Ended.last c.finish.result c.in-Ended.ensures.turn c.in-Ok.ensures c.in-Ended.ensures.standing (c.finish.ensures c.args.version (job_tree c.args.job.now))

pub returns-in-Err-NotAMessage : goal.returns-in-Err-NotAMessage
returns-in-Err-NotAMessage c bytes left parts given standing within =
    refuses_all c.args.version (job_tree c.args.job.now) (bytes ++ c.args.piece.now) (left - length c.args.piece.now) c.loop-answer.rest.now c.loop-answer.reader c.take.new.self c.loop-answer.standing
    (c.loop-answer.invariant bytes left parts given standing within)
    (subst (λ f. IsTaken c.loop-answer.reader c.loop-answer.rest.now (Err f) c.take.new.self) c.in-Err-NotAMessage.field-0-is c.in-Err-NotAMessage.ensures)
