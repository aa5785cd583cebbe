use Rattle.std.proofs.Common.{arith}
use Rattle.px_terms.specs.Monomials.{term_of}
use Rattle.px_parity.proofs.Sums.{added, nothing_added}
use Rattle.px_parity.proofs.equations.add_term.Goals as goal

pub returns-then-coefficient-eq1-clause-sum : goal.returns-then-coefficient-eq1-clause-sum
returns-then-coefficient-eq1-clause-sum c =
    added c.args.row.now c.flip.new.self c.args.term.now.coefficient c.column.result (term_of c.args.term.now).vars c.requires.linear (omega arith) c.column.ensures (omega arith) c.flip.ensures

pub returns-else-coefficient-eq1-clause-sum : goal.returns-else-coefficient-eq1-clause-sum
returns-else-coefficient-eq1-clause-sum c =
    nothing_added c.args.row.now c.args.term.now.coefficient (term_of c.args.term.now).vars (λ e. c.if-coefficient-eq1.false (omega arith))
