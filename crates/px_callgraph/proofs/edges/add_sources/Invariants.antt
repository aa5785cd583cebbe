use Rattle.std.proofs.Common.{take}
use Rattle.px_callgraph.specs.Working.{GainsFrom, AllRiseTo}
use Rattle.px_callgraph.proofs.edges.add_sources.Given as goal

abbrev pub invariant-loop-source : goal.invariant-loop-source
invariant-loop-source l = record {
  gains : GainsFrom l.initial.graph (take l.source-index l.sources) l.to l.graph;
  rising : AllRiseTo l.to l.graph;
}
