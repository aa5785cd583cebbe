use Rattle.std.proofs.Common.{◌<◌, get_or, length, arith}
use Rattle.px_terms.proofs.Evaluation.{variable_below, words_more, product_more}
use Rattle.px_terms.proofs.truth.product_at.Goals as goal

pub loop-i-preserved : goal.loop-i-preserved
loop-i-preserved c =
    let vars = c.args.m.now.vars in
    let few = c.args.m.now.few in
    let room = c.args.m.now.room in
    let within : c.loop-i.i < length vars = omega arith in
    let below : get_or vars c.loop-i.i 0 < length c.args.valuation.now = variable_below vars c.args.m.now.degree c.loop-i.i (length c.args.valuation.now) c.loop-i-test.true (omega arith) c.requires in
    record {
      words = words_more c.args.valuation.now vars c.loop-i.i _ within below c.in_ok-word.ensures.some.0 c.loop-i.invariant.words;
      product = product_more c.args.valuation.now vars c.loop-i.i c.loop-i.product c.in_ok-word.word _ within below c.in_ok-word.ensures.some.1 c.loop-i.invariant.product;
    }
