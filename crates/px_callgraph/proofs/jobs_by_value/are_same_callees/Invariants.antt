use Rattle.std.proofs.Common.{◌≡◌, take}
use Rattle.px_callgraph.proofs.jobs_by_value.are_same_callees.Given as goal

abbrev pub invariant-loop-i : goal.invariant-loop-i
invariant-loop-i l = take l.i l.a ≡ take l.i l.b
