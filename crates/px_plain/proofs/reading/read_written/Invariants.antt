use Rattle.std.proofs.Common.{◌≡◌, take}
use Rattle.px_plain.specs.Readings.{written_nodes}
use Rattle.px_plain.proofs.reading.read_written.Given as goal

abbrev pub invariant-loop-conjunct : goal.invariant-loop-conjunct
invariant-loop-conjunct l = l.nodes.items ≡ written_nodes (take l.conjunct-index l.conjuncts)
