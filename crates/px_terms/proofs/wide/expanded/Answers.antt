use Rattle.std.proofs.Common.{◌-◌, take, drop, get_or, arith, ap, sym, subst, ◌∙◌}
use Rattle.px_terms.specs.Polynomials.{IsPolynomial, normal_form, product_of}
use Rattle.px_terms.specs.Substitutions.{expansion}
use Rattle.px_terms.specs.Wides.{wide_of}
use Rattle.px_terms.proofs.NormalForm.{form_polynomial}
use Rattle.px_terms.proofs.SubstitutionLemmas.{expansion_more, one_back}
use Rattle.px_terms.proofs.wide.expanded.Goals as goal

pub times_image-requires-clause-right : goal.times_image-requires-clause-right
times_image-requires-clause-right c =
    subst IsPolynomial (sym c.loop-done.invariant.value)
    (form_polynomial (expansion c.args.with.now (drop (c.args.m.now.degree - c.loop-done.done) (take c.args.m.now.degree c.args.m.now.vars))))

pub loop-done-preserved : goal.loop-done-preserved
loop-done-preserved c =
    let with = c.args.with.now in
    let degree = c.args.m.now.degree in
    let vars = c.args.m.now.vars in
    let done = c.loop-done.done in
    let few = c.args.m.now.few in
    let room = c.args.m.now.room in
    record {
      value = c.in_ok-rest.ensures.value
          ∙ ap (λ z. product_of z (wide_of c.loop-done.rest)) c.in_ok-image.ensures.value
          ∙ expansion_more with (get_or vars (degree - 1 - done) 0) (drop (degree - done) (take degree vars)) (wide_of c.loop-done.rest) c.loop-done.invariant.value
          ∙ ap (λ xs. normal_form (expansion with xs)) (sym (one_back vars degree done c.loop-done-test.true (omega arith)));
      degree = c.in_ok-rest.ensures.degree;
    }
