use Rattle.std.proofs.Common.{◌<◌, ◌++◌, ℕ, length, subst}
use Rattle.std.specs.Prelude.{All}
use Rattle.std.proofs.lemmas.List.Elements.{All-tail}
use Rattle.px_terms.specs.Variables.{variables_of, mentioned}
use Rattle.px_terms.specs.declared.conjuncts.Conj.{Conj}
use Rattle.px_terms.proofs.Evaluation.{All-left, All-right}
use Rattle.px_terms.proofs.truth.eval.Goals as goal

pub words_at-requires-clause-right : goal.words_at-requires-clause-right
words_at-requires-clause-right c =
    let P = λ (x : ℕ). x < length c.args.valuation.now in
    All-right P (variables_of c.in-Less.p) (variables_of c.in-Less.q) (subst (λ (k : Conj). All P (mentioned k)) c.in-Less.is c.requires)

pub words_at-requires-in-AtMost-clause-left : goal.words_at-requires-in-AtMost-clause-left
words_at-requires-in-AtMost-clause-left c =
    let P = λ (x : ℕ). x < length c.args.valuation.now in
    All-left P (variables_of c.in-AtMost.p) (variables_of c.in-AtMost.q) (subst (λ (k : Conj). All P (mentioned k)) c.in-AtMost.is c.requires)

pub words_at-requires-in-AtMost-clause-right : goal.words_at-requires-in-AtMost-clause-right
words_at-requires-in-AtMost-clause-right c =
    let P = λ (x : ℕ). x < length c.args.valuation.now in
    All-right P (variables_of c.in-AtMost.p) (variables_of c.in-AtMost.q) (subst (λ (k : Conj). All P (mentioned k)) c.in-AtMost.is c.requires)

pub is_quotient_of-requires-clause-left : goal.is_quotient_of-requires-clause-left
is_quotient_of-requires-clause-left c =
    let P = λ (x : ℕ). x < length c.args.valuation.now in
    let all = subst (λ (k : Conj). All P (mentioned k)) c.in-Quotient.is c.requires in
    All-left P (variables_of c.in-Quotient.p) (variables_of c.in-Quotient.q) (All-tail P c.in-Quotient.x.0 (variables_of c.in-Quotient.p ++ variables_of c.in-Quotient.q) all)

pub is_quotient_of-requires-clause-right : goal.is_quotient_of-requires-clause-right
is_quotient_of-requires-clause-right c =
    let P = λ (x : ℕ). x < length c.args.valuation.now in
    let all = subst (λ (k : Conj). All P (mentioned k)) c.in-Quotient.is c.requires in
    All-right P (variables_of c.in-Quotient.p) (variables_of c.in-Quotient.q) (All-tail P c.in-Quotient.x.0 (variables_of c.in-Quotient.p ++ variables_of c.in-Quotient.q) all)
