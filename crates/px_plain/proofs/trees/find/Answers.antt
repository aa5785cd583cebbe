use Rattle.std.proofs.Common.{arith}
use Rattle.px_plain.proofs.trees.find.Goals as goal

pub loop-at-smaller : goal.loop-at-smaller
loop-at-smaller c =
    let r = c.requires.ranked.rising c.loop-at.at c.loop-at.invariant.inside c.loop-at-test.true in
    let f = c.requires.ranked.low c.loop-at.at c.loop-at.invariant.inside in
    omega arith
