use Rattle.std.proofs.Common.{◌≡◌, ◌≤◌, ◌++◌, length, map, reverse, drop}
use Rattle.px_callgraph.specs.JobTree.{job_tree}
use Rattle.px_callgraph.specs.Alternatives.{act}
use Rattle.px_walks.specs.Walks.{walk_of, leads_of}
use Rattle.px_symexec.proofs.calls.put_others.Given as goal

abbrev pub invariant-loop-n : goal.invariant-loop-n
invariant-loop-n l = record {
  within : l.n ≤ length l.others;
  put : map leads_of l.stack.items ≡ map leads_of l.fn.stack.items ++ reverse (map (act (job_tree l.job) (walk_of l.walk)) (drop l.n l.others));
}

abbrev pub decreases-loop-n : goal.decreases-loop-n
decreases-loop-n l = l.n
