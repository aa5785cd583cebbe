use Rattle.std.proofs.Common.{take}
use Rattle.px_jobs.proofs.CalleeLemmas.{AreFirst}
use Rattle.px_jobs.proofs.same.are_callees.Given as goal

abbrev pub invariant-loop-place : goal.invariant-loop-place
invariant-loop-place l = AreFirst l.graph l.out l.parts l.caller.0 l.called l.place (take l.place l.callees)
