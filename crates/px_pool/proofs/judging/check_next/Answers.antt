use Rattle.std.proofs.Common.{ap, Err}
use Rattle.px_callgraph.specs.JobTree.{job_tree}
use Rattle.px_pieces.specs.declared.desk.Lost.TheVariants.{Refused}
use Rattle.px_pool.proofs.GatheringLemmas.{kept_next, refused_next}
use Rattle.px_pool.proofs.judging.check_next.Goals as goal

pub returns-in-Ok : goal.returns-in-Ok
returns-in-Ok c =
    kept_next (job_tree c.args.job.now) c.args.checked.now c.keep.new.checked c.args.entry c.args.derivation.now c.in-Ok.one c.keep.result c.keep.ensures.none c.keep.ensures.kept
    c.in-Ok.ensures.entry c.in-Ok.ensures.job c.in-Ok.ensures.derived

pub returns-in-Err-Refused : goal.returns-in-Err-Refused
returns-in-Err-Refused c done ds checked =
    refused_next (job_tree c.args.job.now) done ds c.args.checked.now c.args.checked.now c.args.entry c.args.derivation.now c.len-count.result c.in-Err-Refused.place c.in-Err-Refused.step c.len-count.ensures
    (c.in-Err-Refused.ensures.refused (Refused c.in-Err-Refused.place c.in-Err-Refused.step) (ap (λ f. Err f) c.in-Err-Refused.field-0-is)) checked
