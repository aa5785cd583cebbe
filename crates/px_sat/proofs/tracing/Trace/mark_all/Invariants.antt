use Rattle.std.proofs.Common.{take}
use Rattle.px_sat.specs.Searches.{IsTracing, Marks}
use Rattle.px_sat.proofs.tracing.Trace.mark_all.Given as goal

abbrev pub invariant-loop-literal : goal.invariant-loop-literal
invariant-loop-literal l = record {
  tracing : IsTracing l.trail l.start l.self.marked.items l.self.parts.items l.self.low;
  marks : Marks l.trail (take l.literal-index l.clause) l.initial.self.marked.items l.self.marked.items;
}
