use Rattle.std.proofs.Common.{◌∙◌, ap, sym}
use Rattle.px_terms.specs.Monomials.{term_of}
use Rattle.px_terms.proofs.PartLemmas.{at_map}
use Rattle.px_terms.proofs.parts.same_at.Goals as goal

pub returns : goal.returns
returns g c =
    let a = at_map term_of c.args.a.now c.args.i c.index-a-i.result c.requires.left ∙ ap term_of (sym c.index-a-i.is) in
    let b = at_map term_of c.args.b.now c.args.i c.index-b-i.result c.requires.right ∙ ap term_of (sym c.index-b-i.is) in
    let (there, back) = c.same_monomial.ensures in
    (λ e. a ∙ there e ∙ sym b, λ e. back (sym a ∙ e ∙ b))
