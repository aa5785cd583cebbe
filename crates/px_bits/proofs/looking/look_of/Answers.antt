use Rattle.std.proofs.Common.{subst}
use Rattle.px_sat.specs.Verdicts.{assigned, IsVerdict}
use Rattle.px_bits.proofs.LookLemmas.{met_words, refuted_words}
use Rattle.px_bits.proofs.looking.look_of.Goals as goal

pub returns-in-Met : goal.returns-in-Met
returns-in-Met c = λ conjuncts stands have. (have, met_words c.args.cnf.now conjuncts stands (assigned c.in-Met.field-0.items) (subst (IsVerdict c.args.cnf.now.variables c.args.cnf.now.clauses c.args.conflicts) c.in-Met.is c.requires).1)

pub returns-in-Unmet : goal.returns-in-Unmet
returns-in-Unmet c = λ conjuncts stands have.
    let v = subst (IsVerdict c.args.cnf.now.variables c.args.cnf.now.clauses c.args.conflicts) c.in-Unmet.is c.requires in
    (have, refuted_words c.args.cnf.now conjuncts stands c.in-Unmet.field-0.items v.0.0 v.1)
