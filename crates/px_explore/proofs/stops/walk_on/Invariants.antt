use Rattle.px_callgraph.specs.JobTree.{job_tree}
use Rattle.px_callgraph.specs.declared.outcomes.StepOutcome.TheVariants.{Next}
use Rattle.px_callgraph.specs.ActsLeft.{acts_left_of}
use Rattle.px_walks.specs.Walks.{walk_of}
use Rattle.px_explore.specs.Stands.{IsOn}
use Rattle.px_explore.specs.Paths.{paths}
use Rattle.px_explore.proofs.stops.walk_on.Given as goal

abbrev pub invariant-loop-walk : goal.invariant-loop-walk
invariant-loop-walk l = IsOn (job_tree l.job) l.fn.from.state (paths (job_tree l.fn.job) l.fn.steps (Next (walk_of l.fn.from))) l.steps (Next (walk_of l.walk))

abbrev pub decreases-loop-walk : goal.decreases-loop-walk
decreases-loop-walk l = acts_left_of (job_tree l.job) (Next (walk_of l.walk))
