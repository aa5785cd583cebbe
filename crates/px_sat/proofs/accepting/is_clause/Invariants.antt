use Rattle.std.proofs.Common.{◌≡◌, take}
use Rattle.px_sat.specs.Logs.{IsClause}
use Rattle.px_sat.specs.Steps.{literals}
use Rattle.px_sat.proofs.accepting.is_clause.Given as goal

abbrev pub invariant-loop-literal : goal.invariant-loop-literal
invariant-loop-literal l = record {
  same : literals l.seen ≡ take l.literal-index l.clause;
  clause : IsClause l.variables (take l.literal-index l.clause);
}
