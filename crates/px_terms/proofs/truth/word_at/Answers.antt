use Rattle.std.proofs.Common.{◌<◌, length}
use Rattle.px_terms.specs.Valuations.{valuation_of, numbers_of, IsWord}
use Rattle.px_terms.proofs.Evaluation.{variables_at, all_words_more, sum_more}
use Rattle.px_terms.proofs.truth.word_at.Goals as goal

pub product_at-requires : goal.product_at-requires
product_at-requires c =
    variables_at (λ x. x < length c.args.valuation.now) c.monomials-m-items.result.now c.loop-m.m-index c.m-item.result c.args.p.now.monomials c.loop-m-test.true c.m-item.is c.monomials-m-items.ensures.value c.requires

pub returns-in_err-product-clause-none : goal.returns-in_err-product-clause-none
returns-in_err-product-clause-none c =
    rw c.from_residual.ensures
    (λ h. c.in_err-product.ensures.none
    (variables_at (λ x. IsWord (valuation_of c.args.valuation.now x)) c.monomials-m-items.result.now c.loop-m.m-index c.m-item.result c.args.p.now.monomials c.loop-m-test.true c.m-item.is c.monomials-m-items.ensures.value h))

pub loop-m-preserved : goal.loop-m-preserved
loop-m-preserved c = record {
  words = all_words_more c.args.valuation.now c.monomials-m-items.result.now c.loop-m.m-index c.m-item.result c.loop-m-test.true c.m-item.is c.in_ok-product.ensures.some.0 c.loop-m.invariant.words;
  sum = sum_more (numbers_of (valuation_of c.args.valuation.now)) c.monomials-m-items.result.now c.loop-m.m-index c.m-item.result c.args.p.now.constant c.loop-m.sum c.in_ok-product.product c.loop-m-test.true c.m-item.is c.in_ok-product.ensures.some.1 c.loop-m.invariant.sum;
}
