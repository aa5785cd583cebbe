use Rattle.std.proofs.Common.{◌≡◌, ◌++◌, drop}
use Rattle.px_cnf.specs.Words.{matching}
use Rattle.px_cnf.proofs.reading.matching.Given as goal

abbrev pub invariant-loop-i : goal.invariant-loop-i
invariant-loop-i l = l.all.items ++ matching (drop l.i l.word) l.rest ≡ matching l.word l.fn.target
