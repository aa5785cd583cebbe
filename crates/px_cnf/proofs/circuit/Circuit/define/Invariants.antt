use Rattle.std.proofs.Common.{◌≡◌, ◌++◌, map, take}
use Rattle.px_cnf.specs.Circuits.{entry_of, entry_clause}
use Rattle.px_cnf.proofs.circuit.Circuit.define.Given as goal

abbrev pub invariant-loop-row : goal.invariant-loop-row
invariant-loop-row l = record {
  clauses : l.self.clauses.items ≡ l.fn.self.clauses.items ++ map (λ r. entry_clause l.z (entry_of r)) (take l.row-index l.rows);
  inputs : l.self.inputs ≡ l.fn.self.inputs;
  variables : l.self.variables ≡ l.fn.self.variables;
}
