use Rattle.std.proofs.Common.{map, refl}
use Rattle.px_terms.specs.Polynomials.{Polynomial, terms_of, term_product}
use Rattle.px_terms.specs.Rows.{scalar_of}
use Rattle.px_terms.specs.Monomials.{term_of}
use Rattle.px_terms.specs.Wides.{wide_of}
use Rattle.px_terms.proofs.Products.{lent_row}
use Rattle.px_terms.proofs.Sums.{merged_form}
use Rattle.px_terms.proofs.SubstitutionLemmas.{scaled_terms}
use Rattle.px_terms.proofs.wide.add_times.Goals as goal

pub returns : goal.returns
returns g c =
    let other : Polynomial = record { constant = c.args.constant; monomials = map term_of c.args.monomials.now } in
    merged_form (wide_of c.args.total.now) other c.args.word c.requires.left c.requires.right
    (map (term_product (scalar_of c.args.word)) (terms_of other)) (scaled_terms c.args.word other c.requires.right)
    c.scaled_sum.result c.scaled_sum.ensures _
    (lent_row _ _ _ _ _ _ _ c.deref.ensures.value c.scalar.ensures.term refl c.in_ok-add_row.ensures)
