use Rattle.std.proofs.Common.{arith, subst, ◌≡◌, length}
use Rattle.px_interval.specs.Gaps.{IsSwept}
use Rattle.px_interval.proofs.Sweeping.{swept_none, swept_more, some_full, none_full}
use Rattle.px_interval.proofs.gaps.is_some_full.Goals as goal

pub loop-gap-init : goal.loop-gap-init
loop-gap-init c = record { few = omega arith; swept = swept_none c.args.gaps.now }

pub loop-gap-preserved : goal.loop-gap-preserved
loop-gap-preserved c = record {
  few = c.if-next-ge-PLACES.false;
  swept = swept_more c.args.gaps.now c.requires.order c.requires.places c.loop-gap.gap-index c.loop-gap-test.true c.loop-gap.variable c.loop-gap.next c.place_before-from.result c.place_after-next.result
      c.loop-gap.invariant.few c.loop-gap.invariant.swept c.place_before-from.ensures.same c.place_before-from.ensures.other c.place_after-next.ensures.taken c.place_after-next.ensures.left;
}

pub returns-then-next-ge-PLACES-clause-yes : goal.returns-then-next-ge-PLACES-clause-yes
returns-then-next-ge-PLACES-clause-yes c =
    let l = c.loop-gap-test.true in
    λ _. some_full c.args.gaps.now _ _ c.place_after-next.result (omega arith) c.if-next-ge-PLACES.true
    (swept_more c.args.gaps.now c.requires.order c.requires.places c.loop-gap.gap-index c.loop-gap-test.true c.loop-gap.variable c.loop-gap.next c.place_before-from.result c.place_after-next.result
    c.loop-gap.invariant.few c.loop-gap.invariant.swept c.place_before-from.ensures.same c.place_before-from.ensures.other c.place_after-next.ensures.taken c.place_after-next.ensures.left)

pub returns-clause-no : goal.returns-clause-no
returns-clause-no c =
    let e : c.loop-gap.gap-index ≡ length c.args.gaps.now = omega arith in
    λ _. none_full c.args.gaps.now c.loop-gap.variable c.loop-gap.next c.loop-gap.invariant.few (subst (λ i. IsSwept c.args.gaps.now i c.loop-gap.variable c.loop-gap.next) e c.loop-gap.invariant.swept)
