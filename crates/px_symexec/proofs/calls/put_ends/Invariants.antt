use Rattle.std.proofs.Common.{◌≡◌, ◌++◌, length, map}
use Rattle.px_callgraph.specs.JobTree.{job_tree}
use Rattle.px_walks.specs.Walks.{leads_of}
use Rattle.px_symexec.specs.Ends.{ends}
use Rattle.px_symexec.proofs.StackLemmas.{ends_from, places_from}
use Rattle.px_symexec.proofs.calls.put_ends.Given as goal

abbrev pub invariant-loop-here : goal.invariant-loop-here
invariant-loop-here l = l.found.items ++ ends_from (job_tree l.job) (map leads_of l.stack.items) ≡ l.fn.found.items ++ ends (job_tree l.fn.job) (leads_of l.fn.from)

abbrev pub decreases-loop-here : goal.decreases-loop-here
decreases-loop-here l = length (places_from (job_tree l.job) (map leads_of l.stack.items))
