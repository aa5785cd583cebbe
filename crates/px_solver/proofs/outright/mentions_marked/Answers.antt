use Rattle.std.proofs.Common.{ℕ, ◌<◌, length, subst, sym, inl, inr, ◌++◌}
use Rattle.std.proofs.lemmas.List.Elements.{All-tail}
use Rattle.std.specs.Prelude.{All, Any}
use Rattle.px_terms.specs.Variables.{variables_of, mentioned}
use Rattle.px_terms.specs.declared.conjuncts.Conj.{Conj}
use Rattle.px_terms.proofs.Evaluation.{All-left, All-right}
use Rattle.px_solver.specs.Tables.{IsMarked}
use Rattle.px_solver.proofs.MarkLemmas.{any_right}
use Rattle.px_solver.proofs.outright.mentions_marked.Goals as goal

pub sum_has_marked-requires-else-sum_has_marked : goal.sum_has_marked-requires-else-sum_has_marked
sum_has_marked-requires-else-sum_has_marked c =
    let P = λ (x : ℕ). x < length c.args.marks.now in
    All-right P (variables_of c.in-Less.p) (variables_of c.in-Less.q) (elim c.in-Less.is [
      | inl e ↦ subst (λ (k : Conj). All P (mentioned k)) e c.requires.inside
      | inr e ↦ subst (λ (k : Conj). All P (mentioned k)) e c.requires.inside
    ])

pub returns-else-sum_has_marked-clause-yes : goal.returns-else-sum_has_marked-clause-yes
returns-else-sum_has_marked-clause-yes c = λ h.
    let P = IsMarked c.args.marks.now in
    let q = any_right P (variables_of c.in-Less.p) (variables_of c.in-Less.q) (c.sum_has_marked-else-sum_has_marked.ensures.yes h) in
    elim c.in-Less.is [
      | inl e ↦ subst (λ (k : Conj). Any P (mentioned k)) (sym e) q
      | inr e ↦ subst (λ (k : Conj). Any P (mentioned k)) (sym e) q
    ]

pub quotient_has_marked-requires-clause-left : goal.quotient_has_marked-requires-clause-left
quotient_has_marked-requires-clause-left c =
    let P = λ (x : ℕ). x < length c.args.marks.now in
    let all = subst (λ (k : Conj). All P (mentioned k)) c.in-Quotient.is c.requires.inside in
    All-left P (variables_of c.in-Quotient.p) (variables_of c.in-Quotient.q) (All-tail P c.in-Quotient.x.0 (variables_of c.in-Quotient.p ++ variables_of c.in-Quotient.q) all)

pub quotient_has_marked-requires-clause-right : goal.quotient_has_marked-requires-clause-right
quotient_has_marked-requires-clause-right c =
    let P = λ (x : ℕ). x < length c.args.marks.now in
    let all = subst (λ (k : Conj). All P (mentioned k)) c.in-Quotient.is c.requires.inside in
    All-right P (variables_of c.in-Quotient.p) (variables_of c.in-Quotient.q) (All-tail P c.in-Quotient.x.0 (variables_of c.in-Quotient.p ++ variables_of c.in-Quotient.q) all)
