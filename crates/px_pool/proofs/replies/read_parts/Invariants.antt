use Rattle.std.proofs.Common.{◌≡◌, ◌-◌, length}
use Rattle.px_callgraph.specs.JobTree.{job_tree}
use Rattle.px_pool.specs.Words.{IsWordKept}
use Rattle.px_pool.proofs.PieceLemmas.{IsComing}
use Rattle.px_pool.proofs.replies.read_parts.Given as goal

abbrev pub invariant-loop-came : goal.invariant-loop-came
invariant-loop-came g l = record {
  room : length l.piece ≡ 4096;
  coming : IsComing l.fn.version (job_tree l.fn.job) (g.K.Link.told l.fn.link) (g.K.Link.told l.link) l.fn.length l.came l.reader l.fed;
  word : IsWordKept g.K.Word.Honesty.says (g.K.Link.told l.fn.link) → IsWordKept g.K.Word.Honesty.says (g.K.Link.told l.link);
  count : g.K.Link.count l.link ≡ g.K.Link.count l.fn.link;
}

abbrev pub decreases-loop-came : goal.decreases-loop-came
decreases-loop-came g l = l.fn.length - l.came
