use Rattle.px_callgraph.specs.JobTree.{job_tree}
use Rattle.px_check.proofs.EndLemmas.{pure_inside, places_inside}
use Rattle.px_check.proofs.ends.is_end_of.Goals as goal

pub is_satisfied-requires-clause-pure : goal.is_satisfied-requires-clause-pure
is_satisfied-requires-clause-pure c = pure_inside (job_tree c.args.job.now) c.args.state.now c.args.exit c.args.given.now c.args.entry.now c.requires (c.has_end.ensures.0 c.if-has_end.true)

pub is_satisfied-requires-clause-places : goal.is_satisfied-requires-clause-places
is_satisfied-requires-clause-places c = places_inside (job_tree c.args.job.now) c.args.state.now c.args.exit c.args.given.now c.args.entry.now c.requires (c.has_end.ensures.0 c.if-has_end.true)
