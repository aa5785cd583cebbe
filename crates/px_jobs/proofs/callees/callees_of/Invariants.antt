use Rattle.px_jobs.proofs.CalleeLemmas.{AreFirst}
use Rattle.px_jobs.proofs.callees.callees_of.Given as goal

abbrev pub invariant-loop-callee : goal.invariant-loop-callee
invariant-loop-callee l = AreFirst l.graph l.out l.parts l.caller.0 l.callee-items l.callee-index l.callees
