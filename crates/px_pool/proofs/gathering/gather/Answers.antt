use Rattle.std.proofs.Common.{sym, subst}
use Rattle.px_callgraph.specs.JobTree.{job_tree}
use Rattle.px_pool.specs.Gathering.{IsGatheredOn}
use Rattle.px_pool.proofs.GatheringLemmas.{passes_over}
use Rattle.px_pool.proofs.gathering.gather.Goals as goal

pub returns-in-Entry : goal.returns-in-Entry
returns-in-Entry c = subst (λ x. IsGatheredOn (job_tree c.args.job.now) c.args.gathering x c.add_entry.result) (sym c.in-Entry.is) c.add_entry.ensures

pub returns-in-Drop : goal.returns-in-Drop
returns-in-Drop c = subst (λ x. IsGatheredOn (job_tree c.args.job.now) c.args.gathering x c.add_drop.result) (sym c.in-Drop.is) c.add_drop.ensures

pub returns-in-Derivation : goal.returns-in-Derivation
returns-in-Derivation c = subst (λ x. IsGatheredOn (job_tree c.args.job.now) c.args.gathering x c.derive.result) (sym c.in-Derivation.is) c.derive.ensures

pub returns : goal.returns
returns c = passes_over (job_tree c.args.job.now) c.args.part c.args.gathering c.in_default.not-Entry c.in_default.not-Drop c.in_default.not-Derivation
