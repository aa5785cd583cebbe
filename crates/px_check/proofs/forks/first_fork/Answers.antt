use Rattle.std.proofs.Common.{refl}
use Rattle.px_callgraph.specs.JobTree.{job_tree}
use Rattle.px_walks.specs.Walks.{walk_of}
use Rattle.px_check.proofs.FollowLemmas.{begins}
use Rattle.px_check.proofs.forks.first_fork.Goals as goal

pub returns : goal.returns
returns c = (begins (job_tree c.args.job.now) (walk_of c.in_ok-start.field-0) c.in_ok-start.ensures, refl)
