use Rattle.std.proofs.Common.{arith}
use Rattle.px_plain.proofs.Sums.{above_trans}
use Rattle.px_plain.proofs.forest.find.Goals as goal

pub loop-table-preserved : goal.loop-table-preserved
loop-table-preserved c =
    let i = c.loop-table.invariant in
    let h = c.halve-shorter.ensures in
    let lower = h.lower in
    let below = i.below in
    record {
      below = omega arith;
      forest = h.forest;
      same = record { there = λ val k. h.same.there val (i.same.there val k); back = λ val k. i.same.back val (h.same.back val k) };
      roots = record { stays = λ r b e. h.roots.stays r (omega arith) (i.roots.stays r b e) };
      above = λ val k. above_trans val c.args.v c.loop-table.at c.halve-shorter.result.parent c.loop-table.offset c.halve-shorter.result.offset (i.above val k) (h.above val (i.same.there val k));
    }
