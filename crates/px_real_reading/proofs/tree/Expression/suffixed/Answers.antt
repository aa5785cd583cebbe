use Rattle.px_real_reading.proofs.TreeEquations.{suffixed-is}
use Rattle.px_real_reading.proofs.tree.Expression.suffixed.Goals as goal

pub returns : goal.returns
returns c = λ all. suffixed-is all c.in_ok-first.first c.in_ok-first.before c.args.last _ (c.in_ok-first.ensures all)
