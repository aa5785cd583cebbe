use Rattle.px_check.proofs.ForkLemmas.{one_more_shared}
use Rattle.px_check.proofs.plans.shared_steps.Goals as goal

pub loop-i-preserved : goal.loop-i-preserved
loop-i-preserved c =
    one_more_shared c.args.first.now c.args.second.now c.loop-i.i c.index-first-i.result c.loop-i.invariant c.loop-i-test.true c.index-first-i.is (c.is_at.ensures.0 c.if-not-is_at.false)
