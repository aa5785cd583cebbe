use Rattle.std.proofs.Common.{◌++◌, take}
use Rattle.px_sat.specs.Logs.{IsLog}
use Rattle.px_sat.specs.Denials.{IsChecked}
use Rattle.px_sat.proofs.accepting.accepts.Given as goal

abbrev pub invariant-loop-clause : goal.invariant-loop-clause
invariant-loop-clause l = record {
  checked : IsChecked l.checker (l.cnf.clauses ++ take l.clause-index l.log);
  logged : IsLog l.cnf.variables l.cnf.clauses (take l.clause-index l.log);
}
