use Rattle.std.proofs.Common.{◌≡◌, take}
use Rattle.px_callgraph.specs.Working.{numbers_of}
use Rattle.px_callgraph.proofs.graph.procedures.Given as goal

abbrev pub invariant-loop-number : goal.invariant-loop-number
invariant-loop-number l = numbers_of l.procedures.items ≡ take l.number-index l.numbers
