use Rattle.std.proofs.Common.{sym, ◌∙◌}
use Rattle.px_callgraph.specs.JobTree.{job_tree}
use Rattle.px_walks.specs.Walks.{walk_of}
use Rattle.px_explore.proofs.SaidLemmas.{some_weaker}
use Rattle.px_explore.proofs.MissedLemmas.{next_met}
use Rattle.px_explore.proofs.missed.block_missed.Goals as goal

pub returns-in-Command : goal.returns-in-Command
returns-in-Command c =
    let w = walk_of c.args.walk.now in
    let (rest, is) = c.next_item.ensures in
    some_weaker _ _ c.missed_by.result (λ m h. next_met (job_tree c.args.job.now) w c.next_item.result c.in-Command.command rest c.args.way m c.in-Command.is is (sym c.is_calling.ensures ∙ c.if-is_calling.false) (h rest)) c.missed_by.ensures
