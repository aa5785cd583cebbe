use Rattle.px_callgraph.specs.JobTree.{job_tree}
use Rattle.px_explore.proofs.SaidLemmas.{some_weaker}
use Rattle.px_explore.proofs.MissedLemmas.{load_met, store_met, free_met}
use Rattle.px_explore.proofs.missed.missed_by.Goals as goal

pub returns-in-Load : goal.returns-in-Load
returns-in-Load c =
    let t = c.in-Load in
    some_weaker _ _ c.missed_at.result (λ m h k. load_met (job_tree c.args.job.now) c.args.state.now k c.args.command.now t.to t.at t.field t.block t.site c.args.way m t.is h) c.missed_at.ensures

pub returns-in-Store : goal.returns-in-Store
returns-in-Store c =
    let t = c.in-Store in
    some_weaker _ _ c.missed_at-in-Store.result (λ m h k. store_met (job_tree c.args.job.now) c.args.state.now k c.args.command.now t.at t.field t.block t.from t.site c.args.way m t.is h) c.missed_at-in-Store.ensures

pub returns-in-Free : goal.returns-in-Free
returns-in-Free c =
    let t = c.in-Free in
    some_weaker _ _ c.missed_at-in-Free.result (λ m h k. free_met (job_tree c.args.job.now) c.args.state.now k c.args.command.now t.at t.block t.site c.args.way m t.is h) c.missed_at-in-Free.ensures
