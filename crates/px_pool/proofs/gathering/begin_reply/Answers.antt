use Rattle.std.proofs.Common.{◌≡◌, true, false, sym, ◌∙◌}
use Rattle.px_callgraph.specs.JobTree.{job_tree}
use Rattle.px_pool.proofs.GatheringLemmas.{other_ticket, other_kinds, opens}
use Rattle.px_pool.proofs.gathering.begin_reply.Goals as goal

pub returns-then-not-is_asked : goal.returns-then-not-is_asked
returns-then-not-is_asked c v =
    other_ticket (job_tree c.args.job.now) v c.args.ticket c.args.kinds.now (λ same. let clash : true ≡ false = sym (c.is_asked.ensures.1 same) ∙ c.if-not-is_asked.true in cc)

pub returns-then-not-are_kinds : goal.returns-then-not-are_kinds
returns-then-not-are_kinds c v =
    other_kinds (job_tree c.args.job.now) v c.args.ticket c.args.kinds.now (c.is_asked.ensures.0 c.if-not-is_asked.false)
    (λ same. let clash : true ≡ false = sym (c.are_kinds.ensures.1 (c.as_slice.ensures ∙ same ∙ sym c.as_slice-2.ensures)) ∙ c.if-not-are_kinds.true in cc)

pub returns : goal.returns
returns c v =
    opens (job_tree c.args.job.now) v c.args.ticket c.args.kinds.now c.nothing_yet.result (c.is_asked.ensures.0 c.if-not-is_asked.false)
    (sym c.as_slice.ensures ∙ c.are_kinds.ensures.0 c.if-not-are_kinds.false ∙ c.as_slice-2.ensures) (c.nothing_yet.ensures (job_tree c.args.job.now))
