use Rattle.std.proofs.Common.{take}
use Rattle.px_cnf.specs.Clauses.{AreClausesBelow}
use Rattle.part_cases.proofs.terms.searching.are_below.Given as goal

abbrev pub invariant-loop-clause : goal.invariant-loop-clause
invariant-loop-clause l = AreClausesBelow l.cnf.variables (take l.clause-index l.cnf.clauses)
