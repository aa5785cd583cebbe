use Rattle.px_regular.proofs.LoopLemmas.{same_ends}
use Rattle.px_regular.proofs.blocks.are_same_blocks.Goals as goal

pub returns : goal.returns
returns c = same_ends c.args.vars.now c.args.found.now c.args.left.now c.loop-atom.met c.loop-atom.atom-index c.loop-atom-test.false c.loop-atom.invariant
