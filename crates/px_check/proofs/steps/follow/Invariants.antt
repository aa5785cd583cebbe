use Rattle.std.proofs.Common.{take}
use Rattle.std.specs.Prelude.{All}
use Rattle.px_callgraph.specs.JobTree.{job_tree}
use Rattle.px_walks.specs.Walks.{walk_of}
use Rattle.px_check.specs.Leading.{lead_at}
use Rattle.px_check.specs.Follows.{turns_left_of, Follows, IsForkOf}
use Rattle.px_check.proofs.steps.follow.Given as goal

abbrev pub invariant-loop-led : goal.invariant-loop-led
invariant-loop-led l = Follows (job_tree l.job) (take l.place l.steps) l.place (lead_at (walk_of l.walk) l.led) × All (IsForkOf (job_tree l.job)) l.forks.items

abbrev pub decreases-loop-led : goal.decreases-loop-led
decreases-loop-led l = turns_left_of (job_tree l.job) (lead_at (walk_of l.walk) l.led)
