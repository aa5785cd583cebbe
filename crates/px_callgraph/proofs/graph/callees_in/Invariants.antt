use Rattle.std.proofs.Common.{◌≡◌, take, map}
use Rattle.px_callgraph.specs.Working.{numbers_of}
use Rattle.px_callgraph.proofs.graph.callees_in.Given as goal

abbrev pub invariant-loop-proc : goal.invariant-loop-proc
invariant-loop-proc l = map (λ v. numbers_of v.items) l.callees.items ≡ take l.proc l.edges
