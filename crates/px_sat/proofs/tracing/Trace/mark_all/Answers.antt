use Rattle.std.proofs.Common.{false, arith}
use Rattle.px_sat.proofs.MarkLemmas.{marks_more}
use Rattle.px_sat.proofs.tracing.Trace.mark_all.Goals as goal

pub loop-literal-preserved : goal.loop-literal-preserved
loop-literal-preserved c = record {
  tracing = c.in_ok-mark.ensures.tracing;
  marks = marks_more c.args.trail.now c.args.clause.now c.loop-literal.literal-index (record { variable = 0; positive = false }) c.args.self.now.marked.items c.loop-literal.self.marked.items c.mark.new.self.marked.items (let t = c.loop-literal-test.true in omega arith) c.loop-literal.invariant.marks c.in_ok-mark.ensures.marks;
}
