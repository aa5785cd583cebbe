use Rattle.std.proofs.Common.{subst}
use Rattle.std.specs.Prelude.{Ok, Err}
use Rattle.px_spelling.specs.declared.fault.WireFault.TheVariants.{NotAMessage}
use Rattle.px_callgraph.specs.JobTree.{job_tree}
use Rattle.px_wire.specs.Messages.{Spells, request, IsDecoded}
use Rattle.px_keep.proofs.MessageLemmas.{asks, other_ticket, none_asks_none}
use Rattle.px_keep.proofs.lent.asked_proc.Goals as goal

pub returns-then-job-eq0-clause-some : goal.returns-then-job-eq0-clause-some
returns-then-job-eq0-clause-some c =
    let spells : Spells c.args.message.now (request (job_tree c.in-Ok-Request.job)) = subst (λ m. IsDecoded c.args.message.now (Ok m)) c.in-Ok-Request.field-0-is c.in-Ok-Request.ensures.spelled in
    asks c.args.message.now (job_tree c.in-Ok-Request.job) spells c.if-job-eq0.true

pub returns-in-Ok-Request-clause-none : goal.returns-in-Ok-Request-clause-none
returns-in-Ok-Request-clause-none c =
    let spells : Spells c.args.message.now (request (job_tree c.in-Ok-Request.job)) = subst (λ m. IsDecoded c.args.message.now (Ok m)) c.in-Ok-Request.field-0-is c.in-Ok-Request.ensures.spelled in
    other_ticket c.args.message.now (job_tree c.in-Ok-Request.job) spells c.if-job-eq0.false

pub returns-in-Err-NotAMessage-clause-none : goal.returns-in-Err-NotAMessage-clause-none
returns-in-Err-NotAMessage-clause-none c =
    let none : IsDecoded c.args.message.now (Err NotAMessage) = subst (λ f. IsDecoded c.args.message.now (Err f)) c.in-Err-NotAMessage.field-0-is c.in-Err-NotAMessage.ensures.spelled in
    none_asks_none c.args.message.now none
