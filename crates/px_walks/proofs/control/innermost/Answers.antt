use Rattle.std.proofs.Common.{◌∙◌, arith}
use Rattle.px_walks.proofs.Controls.{where_below}
use Rattle.px_walks.proofs.control.innermost.Goals as goal

pub loop-n-preserved : goal.loop-n-preserved
loop-n-preserved c = record {
  within = omega arith;
  rest = where_below c.args.control.now c.loop-n.n _ _ _ (omega arith) c.loop-n.invariant.within c.in_default.is ∙ c.loop-n.invariant.rest;
}
