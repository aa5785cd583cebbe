use Rattle.std.proofs.Common.{◌≡◌, ◌*◌, ◌%◌, ◌^◌, map, refl, ap, subst, ◌∙◌}
use Rattle.std.proofs.lemmas.Result.{IfOk-weaker}
use Rattle.px_terms.specs.Polynomials.{IsTooLong, value_of, product_of}
use Rattle.px_terms.specs.Monomials.{term_of}
use Rattle.px_terms.proofs.PolyProducts.{product_made, product_made_normal, product_value}
use Rattle.px_terms.proofs.poly.short_product.Goals as goal

pub within_limits-requires : goal.within_limits-requires
within_limits-requires c = product_made_normal _ _ c.requires.left c.requires.right (map term_of c.args.a.now) (map term_of c.args.b.now) _ refl refl c.in_ok-monomials.ensures

made : (c : goal.After-within_limits) → record { constant = (c.args.c * c.args.d) % 2 ^ 32; monomials = map term_of c.in_ok-monomials.monomials.items }
    ≡ product_of (record { constant = c.args.c; monomials = map term_of c.args.a.now }) (record { constant = c.args.d; monomials = map term_of c.args.b.now })
made c = product_made _ _ c.requires.left c.requires.right (map term_of c.args.a.now) (map term_of c.args.b.now) _ refl refl c.in_ok-monomials.ensures _ refl

pub returns-clause-form : goal.returns-clause-form
returns-clause-form c = IfOk-weaker c.within_limits.result _ _ (λ p e. e ∙ made c) c.within_limits.ensures.value

pub returns-clause-value : goal.returns-clause-value
returns-clause-value c =
    IfOk-weaker c.within_limits.result _ _ (λ p e v. ap (value_of v) (e ∙ made c)
    ∙ product_value (record { constant = c.args.c; monomials = map term_of c.args.a.now }) (record { constant = c.args.d; monomials = map term_of c.args.b.now }) v) c.within_limits.ensures.value

pub returns-clause-long : goal.returns-clause-long
returns-clause-long c h = subst IsTooLong (made c) (c.within_limits.ensures.long h)
