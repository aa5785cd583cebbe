use Rattle.std.proofs.Common.{◌≡◌, take}
use Rattle.px_plain.specs.Readings.{unwritten_nodes}
use Rattle.px_plain.proofs.reading.read_unwritten.Given as goal

abbrev pub invariant-loop-conjunct : goal.invariant-loop-conjunct
invariant-loop-conjunct l = l.nodes.items ≡ unwritten_nodes (take l.conjunct-index l.conjuncts)
