use Rattle.std.proofs.Common.{◌≡◌, take}
use Rattle.px_callgraph.proofs.jobs_by_value.copy_callees.Given as goal

abbrev pub invariant-loop-proc : goal.invariant-loop-proc
invariant-loop-proc l = l.copy ≡ take l.proc-index l.callees
