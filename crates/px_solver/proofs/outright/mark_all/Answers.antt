use Rattle.px_solver.proofs.MarkLemmas.{marks_more}
use Rattle.px_solver.proofs.outright.mark_all.Goals as goal

pub loop-i-preserved : goal.loop-i-preserved
loop-i-preserved c =
    let m = c.mark_one.ensures in
    marks_more c.args.conjuncts.now c.loop-i.i c.index-conjuncts-i.result c.loop-i.marks c.mark_one.new.marks c.loop-i-test.true c.index-conjuncts-i.is c.loop-i.invariant m.said m.kept m.only
