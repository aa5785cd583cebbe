use Rattle.std.proofs.Common.{◌≡◌, ◌++◌, ◌∷◌, [], refl}
use Rattle.px_callgraph.specs.JobTree.{job_tree}
use Rattle.px_parts.specs.declared.part.Part.TheVariants as P
use Rattle.px_pool.specs.declared.gathering.Gathering.{Gathering}
use Rattle.px_pool.proofs.GatheringLemmas.{none_is, out_of_memory, gathered_derivation, too_many}
use Rattle.px_pool.proofs.gathering.derive.Goals as goal

pub returns-in_default : goal.returns-in_default
returns-in_default c v parts opened =
    let g = c.args.gathering in
    too_many (job_tree c.args.job.now) v parts g c.args.derivation.now (none_is c.next.result (g.pending.items ≡ []) c.in_default.not-Some c.next.ensures.none) opened

pub returns-in_default-judge : goal.returns-in_default-judge
returns-in_default-judge c v parts opened = out_of_memory (job_tree c.args.job.now) v (parts ++ P.Derivation c.args.derivation.now ∷ [])

pub returns : goal.returns
returns c es gs ds gathered =
    let g = c.args.gathering in
    let more : Gathering = record { pending = c.next.new.pending; checked = c.judge.new.checked; drops = g.drops; refused = c.in-Ok.refused } in
    gathered_derivation (job_tree c.args.job.now) es gs ds c.in-Some.entry c.args.derivation.now g more c.in-Some.ensures.some refl c.in-Ok.ensures gathered
