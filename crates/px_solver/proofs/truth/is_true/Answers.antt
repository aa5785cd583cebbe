use Rattle.std.proofs.Common.{◌<◌, ◌+◌, ℕ, length, subst, ◌++◌}
use Rattle.std.proofs.lemmas.List.Elements.{All-tail}
use Rattle.std.specs.Prelude.{All}
use Rattle.px_terms.specs.Variables.{variables_of, mentioned}
use Rattle.px_terms.specs.declared.conjuncts.Conj.{Conj}
use Rattle.px_terms.proofs.Evaluation.{All-left, All-right}
use Rattle.px_solver.proofs.truth.is_true.Goals as goal

pub value_at-requires-in-Less-2-clause-inside : goal.value_at-requires-in-Less-2-clause-inside
value_at-requires-in-Less-2-clause-inside c =
    let P = λ (x : ℕ). x + 1 < length c.args.table.now in
    All-right P (variables_of c.in-Less.p) (variables_of c.in-Less.q) (subst (λ (k : Conj). All P (mentioned k)) c.in-Less.is c.requires.inside)

pub value_at-requires-in-AtMost-clause-inside : goal.value_at-requires-in-AtMost-clause-inside
value_at-requires-in-AtMost-clause-inside c =
    let P = λ (x : ℕ). x + 1 < length c.args.table.now in
    All-left P (variables_of c.in-AtMost.p) (variables_of c.in-AtMost.q) (subst (λ (k : Conj). All P (mentioned k)) c.in-AtMost.is c.requires.inside)

pub value_at-requires-in-AtMost-2-clause-inside : goal.value_at-requires-in-AtMost-2-clause-inside
value_at-requires-in-AtMost-2-clause-inside c =
    let P = λ (x : ℕ). x + 1 < length c.args.table.now in
    All-right P (variables_of c.in-AtMost.p) (variables_of c.in-AtMost.q) (subst (λ (k : Conj). All P (mentioned k)) c.in-AtMost.is c.requires.inside)

pub is_quotient_at-requires-clause-left : goal.is_quotient_at-requires-clause-left
is_quotient_at-requires-clause-left c =
    let P = λ (x : ℕ). x + 1 < length c.args.table.now in
    let all = subst (λ (k : Conj). All P (mentioned k)) c.in-Quotient.is c.requires.inside in
    All-left P (variables_of c.in-Quotient.p) (variables_of c.in-Quotient.q) (All-tail P c.in-Quotient.x.0 (variables_of c.in-Quotient.p ++ variables_of c.in-Quotient.q) all)

pub is_quotient_at-requires-clause-right : goal.is_quotient_at-requires-clause-right
is_quotient_at-requires-clause-right c =
    let P = λ (x : ℕ). x + 1 < length c.args.table.now in
    let all = subst (λ (k : Conj). All P (mentioned k)) c.in-Quotient.is c.requires.inside in
    All-right P (variables_of c.in-Quotient.p) (variables_of c.in-Quotient.q) (All-tail P c.in-Quotient.x.0 (variables_of c.in-Quotient.p ++ variables_of c.in-Quotient.q) all)
