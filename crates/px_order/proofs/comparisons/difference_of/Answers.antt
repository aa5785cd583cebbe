use Rattle.std.proofs.Common.{map, sym, ap, ◌∙◌}
use Rattle.px_terms.specs.Monomials.{term_of}
use Rattle.px_order.proofs.Forms.{two_items, difference_second}
use Rattle.px_order.proofs.comparisons.difference_of.Goals as goal

pub returns-in-None : goal.returns-in-None
returns-in-None c =
    let e = two_items c.monomials.result.now c.s-item.result c.t-item.result c.in-len2.len_at_least c.in-len2.len_below c.s-item.is c.t-item.is in
    difference_second c.args.p.now (term_of c.s-item.result) (term_of c.t-item.result) c.positive_first-in-None.result
    (sym c.constant.ensures.value ∙ c.if-constant-ne0.false) (sym c.monomials.ensures.value ∙ ap (map (term_of {n = 4})) e) c.in-None.ensures c.positive_first-in-None.ensures
