use Rattle.std.specs.Prelude.{true}
use Rattle.px_cnf.specs.Circuits.{gates_of}
use Rattle.px_cnf.proofs.Tables.{gate_of, output_of, constant_entries, constant_table, constant_made}
use Rattle.px_cnf.proofs.circuit.Circuit.always.Goals as goal

pub define-requires-clause-gate : goal.define-requires-clause-gate
define-requires-clause-gate c =
    gate_of c.args.self.now.variables (λ a. true) (constant_entries) _
    (constant_made _ c.entry.ensures)
    (constant_table c.args.self.now.variables)

pub returns-clause-value : goal.returns-clause-value
returns-clause-value c =
    output_of c.args.self.now.variables (λ a. true) (constant_entries) _ (gates_of c.define.new.self) c.define.result
    (constant_made _ c.entry.ensures)
    (constant_table c.args.self.now.variables)
    c.define.ensures.output c.define.ensures.met
