use Rattle.std.proofs.Common.{◌≡◌, ◌%◌, ◌^◌, ◌+◌, ◌*◌, ◌<◌, length, take, map, get_or, subst, sym}
use Rattle.px_terms.specs.Terms.{value_at}
use Rattle.px_terms.specs.Monomials.{term_of}
use Rattle.px_terms.proofs.Evaluation.{variables_at, sum_more}
use Rattle.px_solver.specs.Tables.{word_under}
use Rattle.px_solver.proofs.truth.value_at.Goals as goal

pub product_at-product-requires-clause-inside : goal.product_at-product-requires-clause-inside
product_at-product-requires-clause-inside c =
    variables_at (λ x. x + 1 < length c.args.table.now) c.monomials-m-items.result.now c.loop-m.m-index c.m-item.result c.args.p.now.monomials c.loop-m-test.true c.m-item.is c.monomials-m-items.ensures.value c.requires.inside

pub loop-m-preserved : goal.loop-m-preserved
loop-m-preserved c =
    let v = word_under c.args.table.now (λ k. get_or c.args.roots.now k 0) in
    let ms = c.monomials-m-items.result.now in
    let k = c.args.p.now.constant in
    subst (λ z. (c.loop-m.sum + (z * c.product_at-product.result) % 2 ^ 32) % 2 ^ 32 ≡ (k + value_at v (map term_of (take (c.loop-m.m-index + 1) ms))) % 2 ^ 32) (sym c.coefficient.ensures)
    (sum_more v ms c.loop-m.m-index c.m-item.result k c.loop-m.sum c.product_at-product.result c.loop-m-test.true c.m-item.is c.product_at-product.ensures c.loop-m.invariant)
