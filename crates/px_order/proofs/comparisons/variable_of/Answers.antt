use Rattle.std.proofs.Common.{map, sym, ap, ◌∙◌}
use Rattle.px_terms.specs.Monomials.{term_of}
use Rattle.px_order.proofs.Forms.{one_item, variable_is}
use Rattle.px_order.proofs.comparisons.variable_of.Goals as goal

pub returns-in-len1 : goal.returns-in-len1
returns-in-len1 c =
    let e = one_item c.monomials.result.now c.term-item.result c.in-len1.len_at_least c.in-len1.len_below c.term-item.is in
    variable_is c.args.p.now (term_of c.term-item.result) c.unit_of.result (sym c.constant.ensures.value ∙ c.if-constant-ne0.false) (sym c.monomials.ensures.value ∙ ap (map (term_of {n = 4})) e) c.unit_of.ensures
