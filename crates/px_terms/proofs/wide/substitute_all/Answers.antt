use Rattle.std.proofs.Common.{map, take, refl, sym, subst, rules}
use Rattle.std.specs.Prelude.{flat_map}
use Rattle.px_terms.specs.Polynomials.{IsPolynomial, terms_of}
use Rattle.px_terms.specs.Monomials.{term_of}
use Rattle.px_terms.specs.Substitutions.{IsForWord, content_for, expansion, substituted}
use Rattle.px_terms.proofs.NormalForm.{form_polynomial}
use Rattle.px_terms.proofs.Evaluation.{variables_at}
use Rattle.px_terms.proofs.SubstitutionLemmas.{total_more, lent_terms}
use Rattle.px_terms.proofs.wide.substitute_all.Goals as goal

pub expanded-requires : goal.expanded-requires
expanded-requires c =
    variables_at (λ x. IsForWord (content_for c.args.with.now x)) c.args.monomials.now c.loop-m.m-index c.m-item.result (map term_of c.args.monomials.now) c.loop-m-test.true c.m-item.is refl c.requires.words

pub add_times-requires : goal.add_times-requires
add_times-requires c = (
  search rules,
  (
    search rules,
    (
      subst IsPolynomial (sym c.loop-m.invariant)
          (form_polynomial (flat_map (substituted c.args.with.now) (terms_of (record { constant = c.args.constant; monomials = map term_of (take c.loop-m.m-index c.args.monomials.now) })))),
      subst IsPolynomial (sym (lent_terms c.in_ok-product.product _ _ c.deref.ensures.value c.in_ok-product.ensures)) (form_polynomial (expansion c.args.with.now (term_of c.m-item.result).vars)),
    ),
  ),
)

pub loop-m-preserved : goal.loop-m-preserved
loop-m-preserved c =
    total_more c.args.with.now c.args.constant c.args.monomials.now c.loop-m.m-index c.m-item.result _ _ _ c.loop-m-test.true c.m-item.is
    c.loop-m.invariant (lent_terms c.in_ok-product.product _ _ c.deref.ensures.value c.in_ok-product.ensures) c.in_ok-total.ensures

pub returns-clause-form : goal.returns-clause-form
returns-clause-form c =
    subst IsPolynomial (sym c.loop-m.invariant)
    (form_polynomial (flat_map (substituted c.args.with.now) (terms_of (record { constant = c.args.constant; monomials = map term_of (take c.loop-m.m-index c.args.monomials.now) }))))
