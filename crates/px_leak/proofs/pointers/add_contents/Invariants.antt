use Rattle.std.proofs.Common.{take}
use Rattle.std.specs.Prelude.{flat_map}
use Rattle.px_callgraph.specs.Working.{Gains}
use Rattle.px_leak.specs.Reached.{pointed}
use Rattle.px_leak.proofs.pointers.add_contents.Given as goal

abbrev pub invariant-loop-content : goal.invariant-loop-content
invariant-loop-content l = Gains l.initial.graph l.from (flat_map (pointed l.count) (take l.content-index l.contents)) l.graph
