use Rattle.std.proofs.Common.{take}
use Rattle.px_callgraph.specs.Working.{Gains}
use Rattle.px_callgraph.proofs.edges.add_edges.Given as goal

abbrev pub invariant-loop-target : goal.invariant-loop-target
invariant-loop-target l = Gains l.initial.graph l.from (take l.target-index l.targets) l.graph
