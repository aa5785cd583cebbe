use Rattle.px_calls.proofs.RequiredLemmas.{marked_more}
use Rattle.px_calls.proofs.required.used_marks.Goals as goal

pub loop-n-preserved : goal.loop-n-preserved
loop-n-preserved c = marked_more c.args.used.now c.loop-n.n c.loop-n.marks.items c.push.new.self.items c.is_used.result c.loop-n.invariant c.in_ok-push.ensures.items c.is_used.ensures
