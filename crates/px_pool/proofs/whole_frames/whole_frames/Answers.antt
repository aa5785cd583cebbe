use Rattle.std.proofs.Common.{arith}
use Rattle.px_pool.proofs.CountLemmas.{one_counted, all_counted}
use Rattle.px_pool.proofs.whole_frames.whole_frames.Goals as goal

pub loop-behind-preserved : goal.loop-behind-preserved
loop-behind-preserved c = record {
  all = one_counted c.args.bytes.now c.loop-behind.rest.now c.in-Some.behind.now c.loop-behind.count c.loop-behind.invariant.all c.in-Some.ensures.found;
  few = omega (arith, c.in-Some.ensures.shorter);
}

pub returns-clause-frames : goal.returns-clause-frames
returns-clause-frames c =
    all_counted c.args.bytes.now c.loop-behind.rest.now c.loop-behind.count c.loop-behind.invariant.all c.in_default.ensures.none
