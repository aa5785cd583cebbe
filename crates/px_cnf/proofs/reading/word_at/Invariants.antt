use Rattle.std.proofs.Common.{◌≡◌}
use Rattle.px_cnf.specs.Words.{bits_from}
use Rattle.px_cnf.proofs.reading.word_at.Given as goal

abbrev pub invariant-loop-i : goal.invariant-loop-i
invariant-loop-i l = l.word.items ≡ bits_from l.i l.first
