use Rattle.std.proofs.Common.{rules, refl, ◌∙◌, ◌+◌}
use Rattle.px_callgraph.specs.JobTree.{job_tree}
use Rattle.px_pool.specs.Talks.{Passes, nothing}
use Rattle.px_pool.proofs.PieceLemmas.{coming_begins, piece_more, failed, closed, whole, whole_counts, on_error, error_counts}
use Rattle.px_pool.proofs.replies.read_parts.Goals as goal

pub loop-came-init : goal.loop-came-init
loop-came-init g c = record {
  room = search rules;
  coming = coming_begins c.args.version (job_tree c.args.job.now) (g.K.Link.told c.args.link.now) c.args.length c.new-reader.result c.feed-fed.new.reader c.feed-fed.result c.new-reader.ensures c.feed-fed.ensures;
  word = λ kept. kept;
  count = refl;
}

pub loop-came-preserved : goal.loop-came-preserved
loop-came-preserved g c = record {
  room = search rules;
  coming = piece_more c.args.version (job_tree c.args.job.now) (g.K.Link.told c.args.link.now) (g.K.Link.told c.loop-came.link) (g.K.Link.told c.receive_front.new.link) c.args.length c.loop-came.came c.loop-came.reader c.feed_more-fed.new.reader c.loop-came.fed c.loop-came.invariant.coming
      c.in-Ok.count (c.loop-came.came + c.in-Ok.count) c.receive_front.new.into c.first-more.result.now c.feed_more-fed.result c.if-count-eq0.false c.in-Ok.ensures.bound.0 c.in-Ok.ensures.bound.1 refl c.first-more.ensures
      c.in-Ok.ensures.given c.feed_more-fed.ensures;
  word = λ kept. c.receive_front.ensures.word;
  count = c.in-Ok.ensures.cause.unfailed ∙ c.loop-came.invariant.count;
}

pub returns-in_default-clause-read : goal.returns-in_default-clause-read
returns-in_default-clause-read g c =
    failed c.args.version (job_tree c.args.job.now) (g.K.Link.told c.args.link.now) (g.K.Link.told c.loop-came.link) (g.K.Link.told c.receive_front.new.link) c.args.length c.loop-came.came c.loop-came.reader c.loop-came.reader c.loop-came.fed c.loop-came.invariant.coming c.loop-came-test.true
    (on_error c.receive_front.result (Passes (g.K.Link.told c.loop-came.link) (g.K.Link.told c.receive_front.new.link) nothing) c.in_default.not-Ok c.receive_front.ensures.none)

pub returns-in_default-clause-word : goal.returns-in_default-clause-word
returns-in_default-clause-word g c = λ kept. c.receive_front.ensures.word

pub returns-in_default-clause-faults : goal.returns-in_default-clause-faults
returns-in_default-clause-faults g c =
    error_counts (g.K.Link.count c.args.link.now) (g.K.Link.count c.loop-came.link) (g.K.Link.count c.receive_front.new.link) c.receive_front.result c.in_default.not-Ok c.loop-came.invariant.count c.receive_front.ensures.cause

pub returns-then-count-eq0-clause-read : goal.returns-then-count-eq0-clause-read
returns-then-count-eq0-clause-read g c =
    closed c.args.version (job_tree c.args.job.now) (g.K.Link.told c.args.link.now) (g.K.Link.told c.loop-came.link) (g.K.Link.told c.receive_front.new.link) c.args.length c.loop-came.came c.loop-came.reader c.loop-came.reader c.loop-came.fed c.loop-came.invariant.coming
    c.in-Ok.count (4 + c.loop-came.came) c.receive_front.new.into c.if-count-eq0.true c.loop-came-test.true refl c.in-Ok.ensures.given

pub returns-then-count-eq0-clause-word : goal.returns-then-count-eq0-clause-word
returns-then-count-eq0-clause-word g c = λ kept. c.receive_front.ensures.word

pub returns-then-count-eq0-clause-faults : goal.returns-then-count-eq0-clause-faults
returns-then-count-eq0-clause-faults g c = c.in-Ok.ensures.cause.unfailed ∙ c.loop-came.invariant.count

pub returns-clause-read : goal.returns-clause-read
returns-clause-read g c =
    whole c.args.version (job_tree c.args.job.now) (g.K.Link.told c.args.link.now) (g.K.Link.told c.loop-came.link) (g.K.Link.told c.loop-came.link) c.args.length c.loop-came.came c.loop-came.reader c.loop-came.reader c.loop-came.fed c.loop-came.invariant.coming
    c.outcome.result c.loop-came-test.false (λ bytes. c.outcome.ensures c.args.version (job_tree c.args.job.now) bytes c.loop-came.reader)

pub returns-clause-word : goal.returns-clause-word
returns-clause-word g c = c.loop-came.invariant.word

pub returns-clause-faults : goal.returns-clause-faults
returns-clause-faults g c =
    whole_counts c.args.version (job_tree c.args.job.now) (g.K.Link.told c.args.link.now) (g.K.Link.told c.loop-came.link) (g.K.Link.told c.loop-came.link) c.args.length c.loop-came.came c.loop-came.reader c.loop-came.reader c.loop-came.fed c.loop-came.invariant.coming
    (g.K.Link.count c.args.link.now) (g.K.Link.count c.loop-came.link) c.outcome.result c.loop-came.invariant.count c.loop-came-test.false (λ bytes. c.outcome.ensures c.args.version (job_tree c.args.job.now) bytes c.loop-came.reader)
