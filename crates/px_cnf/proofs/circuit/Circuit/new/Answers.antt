use Rattle.std.proofs.Common.{List, sym, subst}
use Rattle.px_cnf.specs.declared.literal.Literal.{Literal}
use Rattle.px_cnf.specs.Circuits.{IsCircuit}
use Rattle.px_cnf.proofs.Defining.{new_circuit}
use Rattle.px_cnf.proofs.circuit.Circuit.new.Goals as goal

pub returns-clause-circuit : goal.returns-clause-circuit
returns-clause-circuit c =
    subst (λ (cs : List (List Literal)). IsCircuit (record { inputs = c.args.inputs; variables = c.args.inputs; clauses = cs })) (sym c.new.ensures.items) (new_circuit c.args.inputs)
