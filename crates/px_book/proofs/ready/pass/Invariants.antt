use Rattle.std.proofs.Common.{◌≤◌, ℕ, Option}
use Rattle.px_core.specs.BodyTree.{BodyTree}
use Rattle.px_callgraph.specs.CallGraphs.{IsGraphOf}
use Rattle.px_book.specs.Ready.{NoneBlocks, callees_in}
use Rattle.px_book.proofs.ready.pass.Given as goal

abbrev pub invariant-loop-place : goal.invariant-loop-place
invariant-loop-place l = record {
  from : l.from ≤ l.place;
  none : (bodies : ℕ → Option BodyTree) → IsGraphOf bodies l.graph → NoneBlocks bodies l.statuses l.caller.0 (callees_in l.graph l.caller.0) l.from →
      NoneBlocks bodies l.statuses l.caller.0 (callees_in l.graph l.caller.0) l.place;
}
