use Rattle.std.proofs.Common.{◌≡◌, take}
use Rattle.px_sat.proofs.clauses.Clauses.of.Given as goal

abbrev pub invariant-loop-clause : goal.invariant-loop-clause
invariant-loop-clause l = l.all ≡ take l.clause-index l.clauses
