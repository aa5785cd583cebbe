use Rattle.px_cnf.specs.Circuits.{gates_of}
use Rattle.px_cnf.proofs.BaseLemmas.{one_factor}
use Rattle.px_cnf.proofs.circuit.Circuit.times.Goals as goal

pub returns-in-None-clause-value : goal.returns-in-None-clause-value
returns-in-None-clause-value c a m = one_factor (gates_of c.args.self.now) c.args.word c.args.by.items a c.in-None.is c.requires.by
