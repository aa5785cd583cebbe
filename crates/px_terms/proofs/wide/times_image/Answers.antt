use Rattle.std.proofs.Common.{◌+◌, ◌*◌, map, ap, refl, arith}
use Rattle.px_terms.specs.Monomials.{term_of}
use Rattle.px_terms.proofs.Degrees.{same_degrees}
use Rattle.px_terms.proofs.ProductDegrees.{product_degrees}
use Rattle.px_terms.proofs.PolyProducts.{product_made}
use Rattle.px_terms.proofs.wide.times_image.Goals as goal

pub returns-clause-value : goal.returns-clause-value
returns-clause-value c =
    product_made _ _ c.requires.left c.requires.right (map term_of c.deref.result.now) (map term_of c.deref-2.result.now) _
    (ap (map term_of) c.deref.ensures.value) (ap (map term_of) c.deref-2.ensures.value) c.in_ok-product.ensures _ refl

pub returns-clause-degree : goal.returns-clause-degree
returns-clause-degree c =
    product_degrees c.args.image.now.constant c.args.rest.now.constant 4 (4 * c.args.done) (4 * (c.args.done + 1)) c.deref.result.now c.deref-2.result.now _
    (same_degrees 4 c.args.image.now.monomials.items c.deref.result.now (ap (map term_of) c.deref.ensures.value) c.requires.image_degree)
    (same_degrees (4 * c.args.done) c.args.rest.now.monomials.items c.deref-2.result.now (ap (map term_of) c.deref-2.ensures.value) c.requires.rest_degree)
    (omega arith) c.in_ok-product.ensures
