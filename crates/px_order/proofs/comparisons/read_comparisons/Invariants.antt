use Rattle.std.proofs.Common.{take}
use Rattle.px_order.proofs.Reading.{AreRead}
use Rattle.px_order.proofs.comparisons.read_comparisons.Given as goal

abbrev pub invariant-loop-conjunct : goal.invariant-loop-conjunct
invariant-loop-conjunct l = AreRead (take l.conjunct-index l.conjuncts) l.comparisons.items
