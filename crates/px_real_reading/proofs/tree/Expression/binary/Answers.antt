use Rattle.px_real_reading.proofs.TreeEquations.{binary-is}
use Rattle.px_real_reading.proofs.tree.Expression.binary.Goals as goal

pub returns : goal.returns
returns c = λ all. binary-is all c.in_ok-first.first c.in_ok-first.before c.args.operator c.args.site c.in_ok-new.field-0 _ _ (c.in_ok-first.ensures all) c.in_ok-new.ensures.ok
