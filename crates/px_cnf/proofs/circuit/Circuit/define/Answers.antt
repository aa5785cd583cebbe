use Rattle.std.proofs.Common.{refl}
use Rattle.px_cnf.specs.Circuits.{gates_of}
use Rattle.px_cnf.proofs.Defining.{grows_by_rows, met_by_rows}
use Rattle.px_cnf.proofs.circuit.Circuit.define.Goals as goal

pub returns-clause-grows : goal.returns-clause-grows
returns-clause-grows c =
    grows_by_rows (gates_of c.args.self.now) c.args.rows.now c.loop-row.self.inputs _ c.loop-row.row-index c.loop-row.self.clauses.items c.requires.circuit c.requires.gate
    c.loop-row.invariant.inputs refl c.loop-row-test.false c.loop-row.invariant.clauses

pub returns-clause-met : goal.returns-clause-met
returns-clause-met c =
    met_by_rows c.args.self.now.variables c.loop-row.row-index c.args.self.now.clauses.items c.loop-row.self.clauses.items c.args.rows.now c.loop-row-test.false c.loop-row.invariant.clauses
