use Rattle.std.proofs.Common.{rules, refl, ◌∙◌, arith, ◌+◌, ◌<◌, ◌≡◌, length}
use Rattle.std.proofs.lemmas.Result.{err_from_is_err_and}
use Rattle.px_pool.proofs.LinkTalks.{passes_nothing}
use Rattle.px_pool.proofs.ReadLemmas.{next, at_end, when_full, fewer, as_before, failed_after}
use Rattle.px_pool.proofs.reading.fill.Goals as goal

pub loop-have-init : goal.loop-have-init
loop-have-init g c = record {
  room = refl;
  within = search rules;
  given = passes_nothing (g.K.Link.told c.args.link.now);
  kept = λ h. h;
  word = λ some. absurd (omega (arith, some));
  count = refl;
}

pub loop-have-preserved : goal.loop-have-preserved
loop-have-preserved g c = record {
  room = search rules;
  within = c.in_ok-count.ensures.bound;
  given = next (g.K.Link.told c.args.link.now) (g.K.Link.told c.loop-have.link) (g.K.Link.told c.receive_after.new.link) c.loop-have.have c.in_ok-count.count (c.loop-have.have + c.in_ok-count.count)
      c.loop-have.into c.receive_after.new.into c.in_ok-count.ensures.before c.if-count-eq0.false refl c.loop-have.invariant.given c.in_ok-count.ensures.given;
  kept = λ h. c.in_ok-count.ensures.word;
  word = λ some. c.in_ok-count.ensures.word;
  count = c.in_ok-count.ensures.cause.unfailed ∙ c.loop-have.invariant.count;
}

pub returns-in_err-count-clause-fewer : goal.returns-in_err-count-clause-fewer
returns-in_err-count-clause-fewer g c =
    let p = err_from_is_err_and c.from_residual.result c.from_residual.ensures.1 in
    let all : length c.loop-have.into ≡ length c.receive_after.new.into = search rules in
    fewer c.from_residual.result p.0 (g.K.Link.told c.args.link.now) (g.K.Link.told c.loop-have.link) (g.K.Link.told c.receive_after.new.link) c.loop-have.have (length c.receive_after.new.into) c.loop-have.into
    p.1 c.loop-have-test.true all c.loop-have.invariant.given c.in_err-count.ensures.none

pub returns-in_err-count-clause-cause : goal.returns-in_err-count-clause-cause
returns-in_err-count-clause-cause g c =
    let p = err_from_is_err_and c.from_residual.result c.from_residual.ensures.1 in
    failed_after (g.K.Link.count c.args.link.now) (g.K.Link.count c.loop-have.link) (g.K.Link.count c.receive_after.new.link) c.from_residual.result p.0 c.in_err-count.field-0.0 p.1 c.loop-have.invariant.count c.in_err-count.ensures.cause

pub returns-then-count-eq0-clause-given : goal.returns-then-count-eq0-clause-given
returns-then-count-eq0-clause-given g c =
    let room : c.loop-have.have < length c.receive_after.new.into = search rules in
    at_end (g.K.Link.told c.args.link.now) (g.K.Link.told c.loop-have.link) (g.K.Link.told c.receive_after.new.link) c.loop-have.have c.in_ok-count.count c.loop-have.into c.receive_after.new.into
    c.in_ok-count.ensures.before c.if-count-eq0.true room c.loop-have.invariant.given c.in_ok-count.ensures.given

pub returns-then-count-eq0-clause-cause : goal.returns-then-count-eq0-clause-cause
returns-then-count-eq0-clause-cause g c =
    as_before (g.K.Link.count c.args.link.now) (g.K.Link.count c.receive_after.new.link) c.loop-have.have (c.in_ok-count.ensures.cause.unfailed ∙ c.loop-have.invariant.count)

pub returns-clause-bound : goal.returns-clause-bound
returns-clause-bound g c = c.loop-have.invariant.within

pub returns-clause-given : goal.returns-clause-given
returns-clause-given g c = when_full (g.K.Link.told c.args.link.now) (g.K.Link.told c.loop-have.link) c.loop-have.have c.loop-have.into c.loop-have-test.false c.loop-have.invariant.given

pub returns-clause-word : goal.returns-clause-word
returns-clause-word g c = (c.loop-have.invariant.kept, λ some. c.loop-have.invariant.word (omega (arith, some, c.loop-have-test.false)))

pub returns-clause-cause : goal.returns-clause-cause
returns-clause-cause g c = as_before (g.K.Link.count c.args.link.now) (g.K.Link.count c.loop-have.link) c.loop-have.have c.loop-have.invariant.count
