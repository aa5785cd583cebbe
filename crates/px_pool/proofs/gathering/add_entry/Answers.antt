use Rattle.std.proofs.Common.{◌++◌, ◌∷◌, [], refl}
use Rattle.px_callgraph.specs.JobTree.{job_tree}
use Rattle.px_parts.specs.declared.part.Part.TheVariants as P
use Rattle.px_pool.specs.declared.gathering.Gathering.{Gathering}
use Rattle.px_pool.proofs.GatheringLemmas.{out_of_memory, gathered_entry}
use Rattle.px_pool.proofs.gathering.add_entry.Goals as goal

pub returns-in_default : goal.returns-in_default
returns-in_default c v parts opened = out_of_memory (job_tree c.args.job.now) v (parts ++ P.Entry c.args.entry ∷ [])

pub returns : goal.returns
returns c es gs ds gathered =
    let g = c.args.gathering in
    let more : Gathering = record { pending = c.wait.new.pending; checked = g.checked; drops = g.drops; refused = g.refused } in
    gathered_entry (job_tree c.args.job.now) es gs ds c.args.entry g more c.in-Ok.ensures refl refl refl gathered
