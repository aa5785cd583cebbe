use Rattle.std.proofs.Common.{refl, ap}
use Rattle.px_callgraph.specs.JobTree.{job_tree}
use Rattle.px_walks.specs.Walks.{leads_of}
use Rattle.px_explore.proofs.StopLemmas.{stop_ends, stop_cut, stop_past}
use Rattle.px_explore.proofs.stops.run_on.Goals as goal

pub returns-in-Ends-clause-stop : goal.returns-in-Ends-clause-stop
returns-in-Ends-clause-stop c = stop_ends (job_tree c.args.job.now) _ c.args.steps.now (leads_of c.args.from) c.in-Ends.state c.in-Ends.exit c.in-Ends.result (ap leads_of c.in-Ends.is) c.requires.stands refl

pub returns-in-Cut-clause-stop : goal.returns-in-Cut-clause-stop
returns-in-Cut-clause-stop c = stop_cut (job_tree c.args.job.now) _ c.args.steps.now (leads_of c.args.from) c.in-Cut.state c.in-Cut.gap (ap leads_of c.in-Cut.is) c.requires.stands refl

pub returns-in-Past-clause-stop : goal.returns-in-Past-clause-stop
returns-in-Past-clause-stop c = stop_past (job_tree c.args.job.now) _ c.args.steps.now (leads_of c.args.from) c.in-Past.state (ap leads_of c.in-Past.is) c.requires.stands refl
