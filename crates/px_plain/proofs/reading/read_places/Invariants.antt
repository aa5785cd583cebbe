use Rattle.std.proofs.Common.{◌≡◌, take}
use Rattle.px_plain.specs.Readings.{place_differences}
use Rattle.px_plain.proofs.reading.read_places.Given as goal

abbrev pub invariant-loop-conjunct : goal.invariant-loop-conjunct
invariant-loop-conjunct l = l.differences.items ≡ place_differences (take l.conjunct-index l.conjuncts)
