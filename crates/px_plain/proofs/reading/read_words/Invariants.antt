use Rattle.std.proofs.Common.{◌≡◌, take}
use Rattle.px_plain.specs.Readings.{word_differences}
use Rattle.px_plain.proofs.reading.read_words.Given as goal

abbrev pub invariant-loop-conjunct : goal.invariant-loop-conjunct
invariant-loop-conjunct l = l.differences.items ≡ word_differences (take l.conjunct-index l.conjuncts)
