use Rattle.std.proofs.Common.{take}
use Rattle.px_parity.specs.Held.{Represents}
use Rattle.px_parity.proofs.parity.ParityDomain.refutes.Given as goal

abbrev pub invariant-loop-conjunct : goal.invariant-loop-conjunct
invariant-loop-conjunct l = Represents l.pivots.items (take l.conjunct-index l.conjuncts)
