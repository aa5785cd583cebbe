use Rattle.std.proofs.Common.{◌<◌, length, arith}
use Rattle.px_undecided.proofs.CountLists.{lacks_next, lacks_none}
use Rattle.px_undecided.proofs.counting.all_counts.Goals as goal

pub loop-i-preserved : goal.loop-i-preserved
loop-i-preserved c =
    let (more, e, h) = c.in_ok-put_counts.ensures in
    let k : c.loop-i.i < length c.args.parts.now = omega (arith, c.loop-i-test.true) in
    let l : c.loop-i.i < length c.args.procedures.now = omega (arith, k, c.requires) in
    lacks_next c.args.conflicts c.args.procedures.now c.args.parts.now c.loop-i.i c.index-procedures-i.result c.index-parts-i.result c.loop-i.all.items more c.put_counts.new.all.items l k
    c.index-procedures-i.is c.index-parts-i.is c.loop-i.invariant e h

pub returns : goal.returns
returns c = lacks_none c.args.conflicts c.args.procedures.now c.args.parts.now c.loop-i.i c.loop-i.all.items c.requires (omega (arith, c.loop-i-test.false)) c.loop-i.invariant
