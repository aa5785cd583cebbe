use Rattle.px_cnf.specs.Clauses.{holds}
use Rattle.px_cnf.proofs.Sums.{bits_added}
use Rattle.px_cnf.proofs.circuit.Circuit.add.Goals as goal

pub returns-clause-value : goal.returns-clause-value
returns-clause-value c a m =
    bits_added (holds a c.in_ok-last.last) (holds a c.in_ok-above.above) (holds a c.args.p) (holds a c.args.q) (holds a c.args.r)
    (c.in_ok-last.ensures.value a (c.in_ok-above.ensures.grows.clauses a m)) (c.in_ok-above.ensures.value a m)
