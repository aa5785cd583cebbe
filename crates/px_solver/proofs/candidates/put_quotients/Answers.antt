use Rattle.std.proofs.Common.{◌<◌, ◌+◌, ℕ, length, subst, ◌++◌}
use Rattle.std.proofs.lemmas.List.Elements.{All-tail}
use Rattle.std.specs.Prelude.{All}
use Rattle.px_terms.specs.Variables.{variables_of, mentioned}
use Rattle.px_terms.specs.declared.conjuncts.Conj.{Conj}
use Rattle.px_terms.proofs.Evaluation.{All-left, All-right}
use Rattle.px_solver.proofs.candidates.put_quotients.Goals as goal

pub put_words-requires-clause-left : goal.put_words-requires-clause-left
put_words-requires-clause-left c =
    let P = λ (x : ℕ). x + 1 < length c.args.table.now in
    let all = subst (λ (k : Conj). All P (mentioned k)) c.in-Quotient.is c.requires.inside in
    All-left P (variables_of c.in-Quotient.p) (variables_of c.in-Quotient.q) (All-tail P c.in-Quotient.x.0 (variables_of c.in-Quotient.p ++ variables_of c.in-Quotient.q) all)

pub put_words-requires-clause-right : goal.put_words-requires-clause-right
put_words-requires-clause-right c =
    let P = λ (x : ℕ). x + 1 < length c.args.table.now in
    let all = subst (λ (k : Conj). All P (mentioned k)) c.in-Quotient.is c.requires.inside in
    All-right P (variables_of c.in-Quotient.p) (variables_of c.in-Quotient.q) (All-tail P c.in-Quotient.x.0 (variables_of c.in-Quotient.p ++ variables_of c.in-Quotient.q) all)
