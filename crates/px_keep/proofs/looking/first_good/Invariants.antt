use Rattle.px_callgraph.specs.JobTree.{job_tree}
use Rattle.px_keep.proofs.GoodLemmas.{IsLookedAt}
use Rattle.px_keep.proofs.looking.first_good.Given as goal

abbrev pub invariant-loop-end : goal.invariant-loop-end
invariant-loop-end l = IsLookedAt (job_tree l.job) l.items l.chains l.end

abbrev pub decreases-loop-end : goal.decreases-loop-end
decreases-loop-end l = l.end
