use Rattle.std.proofs.Common.{rules, refl, ap, ◌∙◌, Err}
use Rattle.std.proofs.lemmas.Result.{err_from_is_err_and}
use Rattle.px_callgraph.specs.JobTree.{job_tree}
use Rattle.px_wire.specs.Messages.{Spells, reply}
use Rattle.px_pool.specs.Outcomes.{IsFaultIn}
use Rattle.px_pool.proofs.AnswerLemmas.{refusal_is_fault}
use Rattle.px_pool.proofs.ReplyLemmas.{of_err}
use Rattle.px_pool.proofs.answers.answer_in.Goals as goal

pub returns-in_err-entries-clause-fault : goal.returns-in_err-entries-clause-fault
returns-in_err-entries-clause-fault c =
    let p = err_from_is_err_and c.from_residual-in_err-entries.result c.from_residual-in_err-entries.ensures.1 in
    let e = c.in_err-entries.field-0.0 in
    let spells : Spells c.args.message.now (reply c.args.job.now.ticket c.args.job.now.kinds c.in_ok-table.field-0.table c.as_slice.result.now) = search rules in
    of_err c.from_residual-in_err-entries.result e (λ w. IsFaultIn 1 (job_tree c.args.job.now) c.args.message.now w) (p.1 ∙ ap (λ z. Err z) p.2)
    (refusal_is_fault (job_tree c.args.job.now) c.args.message.now c.in_ok-table.field-0.table c.as_slice.result.now e spells (c.in_err-entries.ensures.refused e refl))
