use Rattle.std.proofs.Common.{◌≡◌, true, false, sym, ◌∙◌}
use Rattle.px_callgraph.specs.JobTree.{job_tree}
use Rattle.px_pool.proofs.GatheringLemmas.{large_of_other, too_large}
use Rattle.px_pool.proofs.gathering.begin_large.Goals as goal

pub returns-then-not-is_asked : goal.returns-then-not-is_asked
returns-then-not-is_asked c v =
    large_of_other (job_tree c.args.job.now) v c.args.ticket (λ same. let clash : true ≡ false = sym (c.is_asked.ensures.1 same) ∙ c.if-not-is_asked.true in cc)

pub returns : goal.returns
returns c v = too_large (job_tree c.args.job.now) v c.args.ticket (c.is_asked.ensures.0 c.if-not-is_asked.false)
