use Rattle.std.proofs.Common.{subst}
use Rattle.std.proofs.lemmas.List.{take_all}
use Rattle.px_order.proofs.Reading.{AreRead, read_more}
use Rattle.px_order.proofs.comparisons.read_comparisons.Goals as goal

pub loop-conjunct-preserved : goal.loop-conjunct-preserved
loop-conjunct-preserved c =
    read_more c.args.conjuncts.now c.loop-conjunct.conjunct-index c.conjunct-item.result c.loop-conjunct.comparisons.items c.add_conjunct.new.comparisons.items
    c.loop-conjunct-test.true c.conjunct-item.is c.in_ok-add_conjunct.ensures c.loop-conjunct.invariant

pub returns : goal.returns
returns c =
    let r : AreRead c.args.conjuncts.now c.loop-conjunct.comparisons.items = subst (λ cs. AreRead cs c.loop-conjunct.comparisons.items) (take_all c.loop-conjunct.conjunct-index c.args.conjuncts.now c.loop-conjunct-test.false) c.loop-conjunct.invariant in
    record { same = r.same; below = r.below }
