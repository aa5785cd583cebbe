use Rattle.std.proofs.Common.{ℕ, ◌<◌, ◌+◌, length, subst, inl, inr, ◌++◌}
use Rattle.std.proofs.lemmas.List.Elements.{All-tail}
use Rattle.std.specs.Prelude.{All}
use Rattle.px_terms.specs.Variables.{variables_of, mentioned}
use Rattle.px_terms.specs.declared.conjuncts.Conj.{Conj}
use Rattle.px_terms.proofs.Evaluation.{All-left, All-right}
use Rattle.px_solver.proofs.touching.push_touched.Goals as goal

pub push_sum-requires-in-Less-clause-inside : goal.push_sum-requires-in-Less-clause-inside
push_sum-requires-in-Less-clause-inside c =
    let P = λ (x : ℕ). x + 1 < length c.args.table.now in
    All-right P (variables_of c.in-Less.p) (variables_of c.in-Less.q) (elim c.in-Less.is [
      | inl e ↦ subst (λ (k : Conj). All P (mentioned k)) e c.requires.inside
      | inr e ↦ subst (λ (k : Conj). All P (mentioned k)) e c.requires.inside
    ])

pub push_quotient-requires-clause-left : goal.push_quotient-requires-clause-left
push_quotient-requires-clause-left c =
    let P = λ (x : ℕ). x + 1 < length c.args.table.now in
    let all = subst (λ (k : Conj). All P (mentioned k)) c.in-Quotient.is c.requires.inside in
    All-left P (variables_of c.in-Quotient.p) (variables_of c.in-Quotient.q) (All-tail P c.in-Quotient.x.0 (variables_of c.in-Quotient.p ++ variables_of c.in-Quotient.q) all)

pub push_quotient-requires-clause-right : goal.push_quotient-requires-clause-right
push_quotient-requires-clause-right c =
    let P = λ (x : ℕ). x + 1 < length c.args.table.now in
    let all = subst (λ (k : Conj). All P (mentioned k)) c.in-Quotient.is c.requires.inside in
    All-right P (variables_of c.in-Quotient.p) (variables_of c.in-Quotient.q) (All-tail P c.in-Quotient.x.0 (variables_of c.in-Quotient.p ++ variables_of c.in-Quotient.q) all)
