use Rattle.std.proofs.Common.{map, take, refl, sym, subst}
use Rattle.std.specs.Prelude.{flat_map}
use Rattle.px_terms.specs.Polynomials.{IsPolynomial, terms_of}
use Rattle.px_terms.specs.Monomials.{term_of}
use Rattle.px_terms.specs.Substitutions.{IsForWord, content_for, substituted}
use Rattle.px_terms.proofs.NormalForm.{form_polynomial}
use Rattle.px_terms.proofs.Evaluation.{variables_at}
use Rattle.px_terms.proofs.SubstitutionLemmas.{total_more, image_alone, one_variable, has_alone}
use Rattle.px_terms.proofs.wide.substitute_linear.Goals as goal

pub add_image-requires-clause-left : goal.add_image-requires-clause-left
add_image-requires-clause-left c =
    subst IsPolynomial (sym c.loop-m.invariant)
    (form_polynomial (flat_map (substituted c.args.with.now) (terms_of (record { constant = c.args.constant; monomials = map term_of (take c.loop-m.m-index c.args.monomials.now) }))))

pub add_image-requires-clause-word : goal.add_image-requires-clause-word
add_image-requires-clause-word c =
    has_alone (λ x. IsForWord (content_for c.args.with.now x)) (term_of c.m-item.result).vars _
    (one_variable c.args.constant c.args.monomials.now c.loop-m.m-index c.m-item.result c.loop-m-test.true c.m-item.is c.requires.form c.requires.linear)
    (variables_at (λ x. IsForWord (content_for c.args.with.now x)) c.args.monomials.now c.loop-m.m-index c.m-item.result (map term_of c.args.monomials.now) c.loop-m-test.true c.m-item.is refl c.requires.words)

pub loop-m-preserved : goal.loop-m-preserved
loop-m-preserved c =
    total_more c.args.with.now c.args.constant c.args.monomials.now c.loop-m.m-index c.m-item.result _ _ _ c.loop-m-test.true c.m-item.is
    c.loop-m.invariant
    (image_alone c.args.with.now _ (term_of c.m-item.result).vars c.in_ok-total.ensures.image
    (one_variable c.args.constant c.args.monomials.now c.loop-m.m-index c.m-item.result c.loop-m-test.true c.m-item.is c.requires.form c.requires.linear))
    c.in_ok-total.ensures.sum

pub returns-clause-form : goal.returns-clause-form
returns-clause-form c =
    subst IsPolynomial (sym c.loop-m.invariant)
    (form_polynomial (flat_map (substituted c.args.with.now) (terms_of (record { constant = c.args.constant; monomials = map term_of (take c.loop-m.m-index c.args.monomials.now) }))))
