use Rattle.std.proofs.Common.{rules, ◌≡◌, ◌≢◌, sym, subst, ◌∙◌, ap, map, Err}
use Rattle.std.proofs.lemmas.Result.{err_from_is_err_and}
use Rattle.px_terms.proofs.Tests.{never_both}
use Rattle.px_callgraph.specs.JobTree.{job_tree}
use Rattle.px_wire.specs.Messages.{large}
use Rattle.px_wire.specs.Versions.{Sent, message_tree, bytes_in}
use Rattle.px_worker.specs.declared.owed.NotOwed.TheVariants as why
use Rattle.px_worker.specs.Answers.{in_frame}
use Rattle.px_worker.proofs.OwedLemmas.{IsSentInRange, owed_is}
use Rattle.px_worker.proofs.CourseLemmas.{same_error}
use Rattle.px_worker.proofs.owed.owed.Goals as goal

pub returns-in_err-asked-clause-no_request : goal.returns-in_err-asked-clause-no_request
returns-in_err-asked-clause-no_request g c = λ h.
    let p = err_from_is_err_and c.from_residual.result c.from_residual.ensures.1 in
    let e = c.in_err-asked.field-0.0 in
    c.in_err-asked.ensures.no_request (ap (λ z. Err z) (same_error c.from_residual.result e why.NoRequest (p.1 ∙ ap (λ z. Err z) p.2) h))

pub returns-then-not-are_kinds-clause-others : goal.returns-then-not-are_kinds-clause-others
returns-then-not-are_kinds-clause-others g c =
    let kinds = map (λ b. (goal.Domain-dyn g (b.vtable, b.value)).number b.value) c.args.domains.now.items in
    let asked = c.in_ok-asked.asked in
    let differ : asked.job.kinds ≢ kinds = search rules in
    (λ e. (job_tree asked.job, (asked.version, c.in_ok-asked.ensures.is_known, c.in_ok-asked.ensures.asks), differ))

pub returns-then-not-is_in_range-clause-out : goal.returns-then-not-is_in_range-clause-out
returns-then-not-is_in_range-clause-out g c =
    let asked = c.in_ok-asked.asked in
    λ e. (
      asked.version,
      job_tree asked.job,
      c.in_ok-found.found,
      c.in_ok-asked.ensures.is_known,
      c.in_ok-asked.ensures.asks,
      record { table = c.in_ok-found.ensures.table; own = c.in_ok-found.ensures.own },
      λ within. never_both c.is_in_range.result (c.is_in_range.ensures.1 (subst IsSentInRange (sym c.in_ok-reply.ensures) within)) c.if-not-is_in_range.true,
    )

pub returns-clause-owed : goal.returns-clause-owed
returns-clause-owed g c =
    let kinds = map (λ b. (goal.Domain-dyn g (b.vtable, b.value)).number b.value) c.args.domains.now.items in
    let asked = c.in_ok-asked.asked in
    let answer = c.in_ok-answer.answer.message in
    let own : asked.job.kinds ≡ kinds = search rules in
    owed_is c.args.known asked.version kinds c.args.message.now (bytes_in answer.version (message_tree answer)) (job_tree asked.job) c.in_ok-found.found
    c.requires.message c.in_ok-asked.ensures.is_known c.in_ok-asked.ensures.asks own
    (record { table = c.in_ok-found.ensures.table; own = c.in_ok-found.ensures.own })
    (c.in_ok-answer.ensures.bytes ∙ ap (λ (m : Sent). in_frame (bytes_in m.version (message_tree m)) (bytes_in m.version (large asked.job.ticket))) c.in_ok-reply.ensures)
    (subst IsSentInRange c.in_ok-reply.ensures (c.is_in_range.ensures.0 c.if-not-is_in_range.false))
