use Rattle.px_undecided.proofs.LookLists.{looks_next}
use Rattle.px_undecided.proofs.counting.looks.Goals as goal

pub loop-gap-preserved : goal.loop-gap-preserved
loop-gap-preserved c =
    let (more, e, h) = c.in_ok-put_look.ensures in
    looks_next c.args.conflicts c.args.drops.now c.loop-gap.gap-index c.gap-item.result c.loop-gap.looks.items more c.put_look.new.looks.items c.loop-gap-test.true c.gap-item.is c.loop-gap.invariant e h
