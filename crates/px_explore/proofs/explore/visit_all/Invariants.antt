use Rattle.std.proofs.Common.{◌≡◌, ◌++◌, length, map}
use Rattle.std.specs.Prelude.{All}
use Rattle.px_callgraph.specs.JobTree.{job_tree}
use Rattle.px_walks.specs.Walks.{leads_of}
use Rattle.px_explore.specs.BranchPoints.{left_of, IsReady}
use Rattle.px_explore.specs.Paths.{paths}
use Rattle.px_explore.proofs.SearchLemmas.{IsUnderWay}
use Rattle.px_explore.proofs.explore.visit_all.Given as goal

abbrev pub invariant-loop-steps : goal.invariant-loop-steps
invariant-loop-steps g l = record {
  kinds : map (λ b. (goal.Domain-dyn g (b.vtable, b.value)).number b.value) l.domains.items ≡ l.job.kinds;
  ready : IsReady l.trail (λ cs. All (λ b. (goal.Domain-dyn g (b.vtable, b.value)).holds b.value cs) l.domains.items) (leads_of l.from) l.points.items;
  under_way : IsUnderWay (job_tree l.job) l.steps (leads_of l.from) l.points.items l.found;
}

abbrev pub decreases-loop-steps : goal.decreases-loop-steps
decreases-loop-steps g l = length (paths (job_tree l.job) l.steps (leads_of l.from) ++ left_of (job_tree l.job) l.points.items)
