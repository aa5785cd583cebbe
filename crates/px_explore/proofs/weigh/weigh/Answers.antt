use Rattle.px_explore.specs.declared.stops.Stop.TheVariants as S
use Rattle.px_explore.specs.declared.weigh.Weighed.TheVariants as W
use Rattle.px_explore.proofs.WeighLemmas.{closed, weighs_at, weighs_closed, weighs_open}
use Rattle.px_explore.proofs.weigh.weigh.Goals as goal

pub returns-then-branch-clause-answer : goal.returns-then-branch-clause-answer
returns-then-branch-clause-answer g c =
    closed c.args.job.now.kinds c.args.stop c.in-Choice.fork c.in_ok-is_out-in-Choice.field-0 c.in-Choice.is c.in_ok-is_out-in-Choice.ensures.answer c.if-branch.true

pub returns-then-branch-clause-reached : goal.returns-then-branch-clause-reached
returns-then-branch-clause-reached g c = weighs_at c.args.trail.now _ _ _ W.Out c.args.stop (S.Choice c.in-Choice.fork) c.in-Choice.is (weighs_closed c.args.trail.now _ _ _ c.in-Choice.fork.walk.state c.in_ok-is_out-in-Choice.ensures.reached)

pub returns-in-Choice-clause-reached : goal.returns-in-Choice-clause-reached
returns-in-Choice-clause-reached g c = weighs_at c.args.trail.now _ _ _ (W.Open c.in-Choice.fork) c.args.stop (S.Choice c.in-Choice.fork) c.in-Choice.is (weighs_open c.args.trail.now _ _ _ c.in-Choice.fork c.in_ok-is_out-in-Choice.ensures.reached)

pub returns-then-branch-2-clause-reached : goal.returns-then-branch-2-clause-reached
returns-then-branch-2-clause-reached g c = weighs_at c.args.trail.now _ _ _ W.Out c.args.stop (S.Past c.in-Past.state) c.in-Past.is (weighs_closed c.args.trail.now _ _ _ c.in-Past.state c.in_ok-is_out-in-Past.ensures.reached)

pub returns-in-Past-clause-reached : goal.returns-in-Past-clause-reached
returns-in-Past-clause-reached g c = weighs_at c.args.trail.now _ _ _ W.Out c.args.stop (S.Past c.in-Past.state) c.in-Past.is (weighs_closed c.args.trail.now _ _ _ c.in-Past.state c.in_ok-is_out-in-Past.ensures.reached)

pub returns-then-branch-3-clause-reached : goal.returns-then-branch-3-clause-reached
returns-then-branch-3-clause-reached g c = weighs_at c.args.trail.now _ _ _ W.Out c.args.stop (S.Dropped c.in-Dropped.state c.in-Dropped.gap) c.in-Dropped.is (weighs_closed c.args.trail.now _ _ _ c.in-Dropped.state c.in_ok-is_out-in-Dropped.ensures.reached)

pub returns-in-Dropped-clause-reached : goal.returns-in-Dropped-clause-reached
returns-in-Dropped-clause-reached g c = weighs_at c.args.trail.now _ _ _ W.Out c.args.stop (S.Dropped c.in-Dropped.state c.in-Dropped.gap) c.in-Dropped.is (weighs_closed c.args.trail.now _ _ _ c.in-Dropped.state c.in_ok-is_out-in-Dropped.ensures.reached)
