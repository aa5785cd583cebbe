use Rattle.std.proofs.Common.{arith}
use Rattle.px_plain.specs.Forest.{parent_at}
use Rattle.px_plain.proofs.Flattening.{flat_more}
use Rattle.px_plain.proofs.forest.flatten.Goals as goal

pub loop-v-preserved : goal.loop-v-preserved
loop-v-preserved c =
    let i = c.loop-v.invariant in
    let h = c.shorten.ensures in
    record {
      forest = h.forest;
      same = record { there = λ val k. h.same.there val (i.same.there val k); back = λ val k. i.same.back val (h.same.back val k) };
      flat = flat_more (parent_at c.loop-v.table) (parent_at c.shorten.new.table) c.loop-v.v
          (λ v b. i.forest.lower v (omega arith)) h.here h.others i.flat;
    }
