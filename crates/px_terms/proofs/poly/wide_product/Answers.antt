use Rattle.std.proofs.Common.{◌≡◌, ◌*◌, ◌%◌, ◌^◌, map, refl, rules, ap, sym, subst, ◌∙◌}
use Rattle.std.proofs.lemmas.Result.{IfOk-weaker}
use Rattle.px_terms.specs.Terms.{IsNormal}
use Rattle.px_terms.specs.Polynomials.{IsTooLong, value_of, product_of}
use Rattle.px_terms.specs.Monomials.{term_of}
use Rattle.px_terms.proofs.Degrees.{all_few, same_degrees, wide_room}
use Rattle.px_terms.proofs.PolyProducts.{product_made, product_made_normal, product_value}
use Rattle.px_terms.proofs.poly.wide_product.Goals as goal

pub product-requires : goal.product-requires
product-requires c =
    let e = ap (map term_of) c.deref.ensures.value ∙ c.in_ok-a.ensures in
    let f = ap (map term_of) c.deref-2.ensures.value ∙ c.in_ok-b.ensures in (
      search rules,
      (
        subst IsNormal (sym e) c.requires.left.monomials,
        (
          subst IsNormal (sym f) c.requires.right.monomials,
          wide_room c.deref.result.now c.deref-2.result.now (same_degrees 4 c.args.a.now c.deref.result.now e (all_few c.args.a.now)) (same_degrees 4 c.args.b.now c.deref-2.result.now f (all_few c.args.b.now)),
        ),
      ),
    )

pub narrowed-requires : goal.narrowed-requires
narrowed-requires c = (
  search rules,
  product_made_normal _ _ c.requires.left c.requires.right (map term_of c.deref.result.now) (map term_of c.deref-2.result.now) _
      (ap (map term_of) c.deref.ensures.value ∙ c.in_ok-a.ensures) (ap (map term_of) c.deref-2.ensures.value ∙ c.in_ok-b.ensures)
      (ap (map term_of) c.deref-3.ensures.value ∙ c.in_ok-monomials.ensures),
)

made : (c : goal.After-drop-a-2) → record { constant = (c.args.c * c.args.d) % 2 ^ 32; monomials = map term_of c.deref-3.result.now }
    ≡ product_of (record { constant = c.args.c; monomials = map term_of c.args.a.now }) (record { constant = c.args.d; monomials = map term_of c.args.b.now })
made c =
    product_made _ _ c.requires.left c.requires.right (map term_of c.deref.result.now) (map term_of c.deref-2.result.now) _
    (ap (map term_of) c.deref.ensures.value ∙ c.in_ok-a.ensures) (ap (map term_of) c.deref-2.ensures.value ∙ c.in_ok-b.ensures)
    (ap (map term_of) c.deref-3.ensures.value ∙ c.in_ok-monomials.ensures) _ refl

pub returns-clause-form : goal.returns-clause-form
returns-clause-form c = IfOk-weaker c.narrowed.result _ _ (λ p e. e ∙ made c) c.narrowed.ensures.value

pub returns-clause-value : goal.returns-clause-value
returns-clause-value c =
    IfOk-weaker c.narrowed.result _ _ (λ p e v. ap (value_of v) (e ∙ made c)
    ∙ product_value (record { constant = c.args.c; monomials = map term_of c.args.a.now }) (record { constant = c.args.d; monomials = map term_of c.args.b.now }) v) c.narrowed.ensures.value

pub returns-clause-long : goal.returns-clause-long
returns-clause-long c h = subst IsTooLong (made c) (c.narrowed.ensures.long h)
