use Rattle.std.proofs.Common.{arith, rules}
use Rattle.px_terms.proofs.Degrees.{degree_step, degree_end, too_high}
use Rattle.px_terms.proofs.poly.narrowed.Goals as goal

pub returns-then-m-gt-MOST_DEGREE-clause-long : goal.returns-then-m-gt-MOST_DEGREE-clause-long
returns-then-m-gt-MOST_DEGREE-clause-long g c h = too_high c.args.constant c.args.monomials.now c.loop-m.m-index c.m-item.result c.loop-m-test.true c.m-item.is (omega arith)

pub loop-m-preserved : goal.loop-m-preserved
loop-m-preserved g c = degree_step c.args.monomials.now c.loop-m.m-index c.m-item.result 4 4 c.loop-m-test.true c.m-item.is (omega arith) (omega arith) c.loop-m.invariant

pub resized_all-requires : goal.resized_all-requires
resized_all-requires g c = (search rules, (search rules, degree_end c.args.monomials.now c.loop-m.m-index 4 c.loop-m-test.false c.loop-m.invariant))
