use Rattle.std.proofs.Common.{take}
use Rattle.px_cnf.specs.Clauses.{AreBelow}
use Rattle.part_cases.proofs.terms.searching.is_below.Given as goal

abbrev pub invariant-loop-literal : goal.invariant-loop-literal
invariant-loop-literal l = AreBelow l.variables (take l.literal-index l.clause)
