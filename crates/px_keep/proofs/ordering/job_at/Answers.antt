use Rattle.px_callgraph.specs.JobTree.{job_tree}
use Rattle.px_keep.proofs.PartLemmas.{of_turn}
use Rattle.px_keep.proofs.ordering.job_at.Goals as goal

pub returns-clause-job : goal.returns-clause-job
returns-clause-job c = (of_turn c.args.sources.now c.args.graph.now c.args.kept c.args.order.now c.requires.order c.args.parts.now c.args.place c.requires.place c.requires.before (job_tree c.in_ok-job.job) c.in_ok-job.ensures.job).job

pub returns-clause-turn : goal.returns-clause-turn
returns-clause-turn c = (of_turn c.args.sources.now c.args.graph.now c.args.kept c.args.order.now c.requires.order c.args.parts.now c.args.place c.requires.place c.requires.before (job_tree c.in_ok-job.job) c.in_ok-job.ensures.job).turn

pub returns-clause-proc : goal.returns-clause-proc
returns-clause-proc c = (of_turn c.args.sources.now c.args.graph.now c.args.kept c.args.order.now c.requires.order c.args.parts.now c.args.place c.requires.place c.requires.before (job_tree c.in_ok-job.job) c.in_ok-job.ensures.job).proc

pub returns-clause-parameters : goal.returns-clause-parameters
returns-clause-parameters c = (of_turn c.args.sources.now c.args.graph.now c.args.kept c.args.order.now c.requires.order c.args.parts.now c.args.place c.requires.place c.requires.before (job_tree c.in_ok-job.job) c.in_ok-job.ensures.job).parameters

pub returns-clause-kinds : goal.returns-clause-kinds
returns-clause-kinds c = (of_turn c.args.sources.now c.args.graph.now c.args.kept c.args.order.now c.requires.order c.args.parts.now c.args.place c.requires.place c.requires.before (job_tree c.in_ok-job.job) c.in_ok-job.ensures.job).job.kinds
