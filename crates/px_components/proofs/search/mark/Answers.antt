use Rattle.std.proofs.Common.{arith}
use Rattle.px_components.proofs.Marking.{marked_none, marked_more}
use Rattle.px_components.proofs.search.mark.Goals as goal

pub loop-i-init : goal.loop-i-init
loop-i-init c = marked_none c.args.path.now c.args.start c.args.count c.args.nodes.now c.args.numbers.now

pub loop-i-preserved : goal.loop-i-preserved
loop-i-preserved c =
    marked_more c.args.path.now c.args.start c.loop-i.i c.args.count c.args.nodes.now c.loop-i.nodes c.args.numbers.now c.loop-i.numbers
    c.loop-i.invariant (omega arith) c.requires.numbers (c.requires.inside c.loop-i.i c.loop-i-test.true) (c.requires.known c.loop-i.i c.loop-i-test.true)
