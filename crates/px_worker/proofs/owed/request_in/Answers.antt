use Rattle.std.proofs.Common.{subst}
use Rattle.std.specs.Prelude.{Err}
use Rattle.px_spelling.specs.declared.fault.WireFault.TheVariants.{NotAMessage}
use Rattle.px_callgraph.specs.JobTree.{job_tree}
use Rattle.px_wire.specs.Messages.{request}
use Rattle.px_wire.specs.Versions.{message_tree, IsDecodedIn}
use Rattle.px_worker.proofs.OwedLemmas.{spelled_so}
use Rattle.px_worker.proofs.owed.request_in.Goals as goal

pub returns-in-Some-clause-asks : goal.returns-in-Some-clause-asks
returns-in-Some-clause-asks c =
    spelled_so c.in-Ok.sent.version c.in-Some.asked.version c.args.message.now (message_tree c.in-Ok.sent) (request (job_tree c.in-Some.asked.job))
    c.in-Ok.ensures.spelled c.in-Some.ensures.asks c.in-Some.ensures.version

pub returns-in-Err-NotAMessage-clause-no_request : goal.returns-in-Err-NotAMessage-clause-no_request
returns-in-Err-NotAMessage-clause-no_request c = λ e j asks.
    let none : IsDecodedIn c.args.message.now (Err NotAMessage) = subst (λ f. IsDecodedIn c.args.message.now (Err f)) c.in-Err-NotAMessage.field-0-is c.in-Err-NotAMessage.ensures.spelled in
    none asks.0 (request j) asks.2
