use Rattle.std.proofs.Common.{rules, below_more}
use Rattle.px_plain.specs.Differences.{difference_at, IfEqual}
use Rattle.px_plain.proofs.forest.join_all.Goals as goal

pub loop-i-preserved : goal.loop-i-preserved
loop-i-preserved c =
    let i = c.loop-i.invariant in
    let h = c.join_equal.ensures in
    record {
      forest = h.forest;
      joined = λ val k. below_more (λ j. IfEqual val (difference_at c.args.differences.now j)) c.loop-i.i (i.joined val (h.old val k)) (h.joined (search rules) val k);
      old = λ val k. i.old val (h.old val k);
      new = λ val k all. (h.new val (i.new val k all) (all c.loop-i.i c.loop-i-test.true)).1;
    }
