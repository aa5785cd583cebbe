use Rattle.std.proofs.Common.{arith}
use Rattle.px_terms.proofs.Degrees.{degree_step, degree_end}
use Rattle.px_terms.proofs.product.degree_of.Goals as goal

pub loop-m-preserved : goal.loop-m-preserved
loop-m-preserved g c = record {
  all = degree_step c.args.monomials.now c.loop-m.m-index c.m-item.result c.loop-m.degree c.max-degree.result c.loop-m-test.true c.m-item.is
      (omega (arith, c.max-degree.ensures)) (omega (arith, c.max-degree.ensures)) c.loop-m.invariant.all;
  room = let f = c.m-item.result.few in omega (arith, c.max-degree.ensures);
}

pub returns-clause-all : goal.returns-clause-all
returns-clause-all g c = degree_end c.args.monomials.now c.loop-m.m-index c.loop-m.degree c.loop-m-test.false c.loop-m.invariant.all
