use Rattle.std.proofs.Common.{List, map, ap, ◌∙◌}
use Rattle.std.proofs.lemmas.Result.{IfOk-weaker}
use Rattle.px_terms.specs.Polynomials.{value_of}
use Rattle.px_terms.specs.Substitutions.{substitution_of}
use Rattle.px_terms.specs.Monomials.{term_of}
use Rattle.px_terms.specs.declared.monomial.Monomial.{Monomial}
use Rattle.px_terms.proofs.SubstitutionLemmas.{substitution_value}
use Rattle.px_terms.proofs.poly.Poly.substitute.Goals as goal

pub returns-then-degree_of-le1-clause-value : goal.returns-then-degree_of-le1-clause-value
returns-then-degree_of-le1-clause-value c =
    IfOk-weaker c.linear_substitution.result _ _
    (λ p e v. ap (value_of v)
    (e ∙ ap (λ (ms : List (Monomial 4)). substitution_of c.args.with.now (record { constant = c.self.inside.constant; monomials = map term_of ms })) c.deref-then-degree_of-le1.ensures.value
    ∙ ap (substitution_of c.args.with.now) c.self.view_is)
    ∙ substitution_value c.args.with.now c.args.self.now v) c.linear_substitution.ensures.form

pub returns-else-degree_of-le1-clause-value : goal.returns-else-degree_of-le1-clause-value
returns-else-degree_of-le1-clause-value c =
    IfOk-weaker c.wide_substitution.result _ _
    (λ p e v. ap (value_of v)
    (e ∙ ap (λ (ms : List (Monomial 4)). substitution_of c.args.with.now (record { constant = c.self.inside.constant; monomials = map term_of ms })) c.deref-else-degree_of-le1.ensures.value
    ∙ ap (substitution_of c.args.with.now) c.self.view_is)
    ∙ substitution_value c.args.with.now c.args.self.now v) c.wide_substitution.ensures.form
