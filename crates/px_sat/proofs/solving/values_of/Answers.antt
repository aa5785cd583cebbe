use Rattle.px_sat.proofs.LogLemmas.{values_more}
use Rattle.px_sat.proofs.solving.values_of.Goals as goal

pub loop-variable-preserved : goal.loop-variable-preserved
loop-variable-preserved c = rw c.in_ok-push.ensures.items (values_more c.args.trail.now c.loop-variable.variable c.loop-variable.values.items c.is_true.result c.loop-variable.invariant c.is_true.ensures)
