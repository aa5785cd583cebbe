use Rattle.std.proofs.Common.{rules, arith, ◌∙◌}
use Rattle.px_terms.proofs.InOrder.{carried}
use Rattle.px_terms.proofs.merge.put_among.Goals as goal

pub loop-i-preserved : goal.loop-i-preserved
loop-i-preserved c =
    carried c.loop-i.vars c.loop-i.i c.args.len c.loop-i.x c.min.result c.max-x.result c.loop-i-test.true (omega arith) (search rules) (search rules) ∙ c.loop-i.invariant
