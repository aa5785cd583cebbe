use Rattle.px_cnf.specs.Clauses.{holds}
use Rattle.px_cnf.specs.Circuits.{gates_of, parity}
use Rattle.px_cnf.proofs.Tables.{gate_of, output_of, parity_entries, parity_table, parity_made}
use Rattle.px_cnf.proofs.circuit.Circuit.parity.Goals as goal

pub define-requires-clause-gate : goal.define-requires-clause-gate
define-requires-clause-gate c =
    gate_of c.args.self.now.variables (λ a. parity (holds a c.args.p) (holds a c.args.q) (holds a c.args.r)) (parity_entries c.args.p c.args.q c.args.r) _
    (parity_made c.args.p c.args.q c.args.r _ _ _ _ _ _ _ _ _ _ _ c.negated-np.ensures c.negated-nq.ensures c.negated-nr.ensures c.entry.ensures c.entry-2.ensures c.entry-3.ensures c.entry-4.ensures c.entry-5.ensures c.entry-6.ensures c.entry-7.ensures c.entry-8.ensures)
    (parity_table c.args.self.now.variables c.args.p c.args.q c.args.r c.requires.first c.requires.second c.requires.third)

pub returns-clause-value : goal.returns-clause-value
returns-clause-value c =
    output_of c.args.self.now.variables (λ a. parity (holds a c.args.p) (holds a c.args.q) (holds a c.args.r)) (parity_entries c.args.p c.args.q c.args.r) _ (gates_of c.define.new.self) c.define.result
    (parity_made c.args.p c.args.q c.args.r _ _ _ _ _ _ _ _ _ _ _ c.negated-np.ensures c.negated-nq.ensures c.negated-nr.ensures c.entry.ensures c.entry-2.ensures c.entry-3.ensures c.entry-4.ensures c.entry-5.ensures c.entry-6.ensures c.entry-7.ensures c.entry-8.ensures)
    (parity_table c.args.self.now.variables c.args.p c.args.q c.args.r c.requires.first c.requires.second c.requires.third)
    c.define.ensures.output c.define.ensures.met
