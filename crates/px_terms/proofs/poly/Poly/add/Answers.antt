use Rattle.std.proofs.Common.{◌≡◌, ◌+◌, ◌%◌, ◌^◌, map, refl, ap, ap₂, sym, subst, ◌∙◌}
use Rattle.std.proofs.lemmas.Result.{IfOk-weaker}
use Rattle.px_terms.specs.Terms.{IsNormal}
use Rattle.px_terms.specs.Polynomials.{IsTooLong, value_of, sum_of}
use Rattle.px_terms.specs.Monomials.{term_of}
use Rattle.px_terms.proofs.Products.{lent_row}
use Rattle.px_terms.proofs.Sums.{merged_normal, sum_form, sum_value}
use Rattle.px_terms.proofs.poly.Poly.add.Goals as goal

pub within_limits-requires : goal.within_limits-requires
within_limits-requires c =
    subst IsNormal
    (sym (lent_row _ _ _ _ _ _ _ c.deref.ensures.value c.scalar.ensures.term c.deref-2.ensures.value c.in_ok-monomials.ensures))
    (merged_normal (record { constant = c.self.inside.constant; monomials = map term_of c.self.inside.monomials.items })
    (record { constant = c.other.inside.constant; monomials = map term_of c.other.inside.monomials.items }) 1 c.self.invariant.0 c.other.invariant.0)

made : (c : goal.After-within_limits) → record { constant = (c.self.inside.constant + c.other.inside.constant) % 2 ^ 32; monomials = map term_of c.in_ok-monomials.monomials.items } ≡ sum_of c.args.self.now c.args.other.now
made c =
    sum_form (record { constant = c.self.inside.constant; monomials = map term_of c.self.inside.monomials.items })
    (record { constant = c.other.inside.constant; monomials = map term_of c.other.inside.monomials.items })
    c.self.invariant.0 c.other.invariant.0 _ refl _
    (lent_row _ _ _ _ _ _ _ c.deref.ensures.value c.scalar.ensures.term c.deref-2.ensures.value c.in_ok-monomials.ensures)
    ∙ ap₂ sum_of c.self.view_is c.other.view_is

pub returns-clause-form : goal.returns-clause-form
returns-clause-form c = IfOk-weaker c.within_limits.result _ _ (λ p e. e ∙ made c) c.within_limits.ensures.value

pub returns-clause-value : goal.returns-clause-value
returns-clause-value c =
    IfOk-weaker c.within_limits.result _ _ (λ p e v. ap (value_of v) (e ∙ made c) ∙ sum_value c.args.self.now c.args.other.now v) c.within_limits.ensures.value

pub returns-clause-long : goal.returns-clause-long
returns-clause-long c h = subst IsTooLong (made c) (c.within_limits.ensures.long h)
