use Rattle.px_jobs.proofs.BodyLemmas.{body_at}
use Rattle.px_jobs.proofs.same.same_bodies.Goals as goal

pub returns-then-not-equal_bodies : goal.returns-then-not-equal_bodies
returns-then-not-equal_bodies c =
    let differ = c.if-not-equal_bodies.true in (
      λ e. cc,
      λ e. let q = c.equal_bodies.ensures.1 (body_at c.args.left.now c.args.right.now c.loop-place.place c.index-left-place.result c.index-right-place.result c.loop-place-test.true e c.index-left-place.is c.index-right-place.is) in cc,
    )
