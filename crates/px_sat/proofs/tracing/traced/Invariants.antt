use Rattle.std.proofs.Common.{◌≡◌, ◌≤◌, ◌+◌, List, Some, length}
use Rattle.std.specs.List.{slice_get}
use Rattle.px_cnf.specs.declared.literal.Literal.{Literal}
use Rattle.px_sat.specs.Searches.{IsTracing, AreMarked, IsTracedFrom}
use Rattle.px_sat.proofs.tracing.traced.Given as goal

abbrev pub invariant-loop-place : goal.invariant-loop-place
invariant-loop-place l = record {
  later : l.start + 1 ≤ l.place;
  inside : l.place ≤ length l.trail;
  tracing : IsTracing l.trail l.start l.trace.marked.items l.trace.parts.items l.trace.low;
  conflict : (clause : List Literal) → slice_get l.clauses l.at ≡ Some clause → AreMarked l.trail l.trace.marked.items clause;
  traced : IsTracedFrom l.clauses l.trail l.trace.marked.items l.place;
}

abbrev pub decreases-loop-place : goal.decreases-loop-place
decreases-loop-place l = l.place
