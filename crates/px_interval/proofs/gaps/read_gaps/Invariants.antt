use Rattle.std.proofs.Common.{◌≡◌, take}
use Rattle.std.specs.Prelude.{flat_map}
use Rattle.px_interval.specs.Gaps.{conjunct_gaps}
use Rattle.px_interval.proofs.gaps.read_gaps.Given as goal

abbrev pub invariant-loop-conjunct : goal.invariant-loop-conjunct
invariant-loop-conjunct l = l.gaps.items ≡ flat_map conjunct_gaps (take l.conjunct-index l.conjuncts)
