use Rattle.std.proofs.Common.{map, sym, subst, rules}
use Rattle.px_terms.specs.Terms.{IsRising}
use Rattle.px_terms.specs.Monomials.{term_of}
use Rattle.px_terms.proofs.Products.{zero_row}
use Rattle.px_terms.proofs.Degrees.{scalar_room}
use Rattle.px_terms.proofs.product.add_scaled.Goals as goal

pub returns-then-word-eq0 : goal.returns-then-word-eq0
returns-then-word-eq0 g c = zero_row c.args.word c.args.all.items c.args.others.now c.if-word-eq0.true c.requires.left

pub add_row-requires : goal.add_row-requires
add_row-requires g c =
    (search rules, (subst (λ xs. IsRising (map term_of xs)) (sym c.deref.ensures.value) c.requires.left, (c.requires.right, scalar_room c.args.others.now c.scalar.result.degree c.scalar.ensures.degree)))
