use Rattle.std.proofs.Common.{◌≡◌, map, take}
use Rattle.px_callgraph.specs.Calls.{case_way}
use Rattle.px_calls.proofs.required.as_ways.Given as goal

abbrev pub invariant-loop-case : goal.invariant-loop-case
invariant-loop-case l = l.ways.items ≡ map case_way (take l.case-index l.cases)
