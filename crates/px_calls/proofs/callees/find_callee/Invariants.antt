use Rattle.std.proofs.Common.{◌≡◌, drop}
use Rattle.px_callgraph.specs.JobTree.{callee_in}
use Rattle.px_calls.proofs.callees.find_callee.Given as goal

abbrev pub invariant-loop-pair : goal.invariant-loop-pair
invariant-loop-pair l = callee_in (drop l.pair-index l.callees) l.proc ≡ callee_in l.callees l.proc
