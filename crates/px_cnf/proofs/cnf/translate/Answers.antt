use Rattle.std.proofs.Common.{List, ℕ, subst}
use Rattle.px_terms.specs.declared.variables.Var.{Var}
use Rattle.px_cnf.specs.Circuits.{gates_of}
use Rattle.px_cnf.specs.Standing.{IsTranslation}
use Rattle.px_cnf.proofs.StandsLemmas.{stands_for}
use Rattle.px_cnf.proofs.cnf.translate.Goals as goal

pub returns-clause-stands : goal.returns-clause-stands
returns-clause-stands c =
    let g = gates_of c.in_ok-circuit.circuit in
    let t = subst (λ (bits : List (Var × ℕ)). IsTranslation g c.in_ok-circuit.asserted.items bits c.args.conjuncts.now) c.deref.ensures.value c.in_ok-circuit.ensures in
    rw (c.from_vec.ensures, c.from_vec-2.ensures)
    (stands_for g c.in_ok-circuit.asserted.items c.in_ok-clauses.clauses.items c.in_ok-bits.bits.items c.args.conjuncts.now t c.in_ok-bits.ensures.bits c.in_ok-clauses.ensures)
