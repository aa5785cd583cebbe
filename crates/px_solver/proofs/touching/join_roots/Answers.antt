use Rattle.std.proofs.Common.{◌≡◌, ◌%◌, ◌^◌, ◌∙◌, get_or, sym, arith, below_more}
use Rattle.px_solver.proofs.touching.join_roots.Goals as goal

pub loop-i-preserved : goal.loop-i-preserved
loop-i-preserved c =
    let i = c.loop-i.invariant in
    let h = c.join_two.ensures in
    let ns = c.args.nodes.now in
    record {
      forest = h.forest;
      bare = h.bare;
      old = λ val k. i.old val (h.old val k);
      one = λ val k. below_more (λ j. val (get_or ns j 0) % 2 ^ 32 ≡ val (get_or ns 0 0) % 2 ^ 32) c.loop-i.i (i.one val (h.old val k)) (h.joined val k);
      new = λ val k o. h.new val (i.new val k o) (o c.loop-i.i 0 c.loop-i-test.true (let l = c.loop-i-test.true in omega arith));
    }

pub returns-clause-one : goal.returns-clause-one
returns-clause-one c = λ val k i j a b.
    let end = c.loop-i-test.false in
    let one = c.loop-i.invariant.one val k in
    one i (omega arith) ∙ sym (one j (omega arith))
