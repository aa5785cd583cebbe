use Rattle.std.proofs.Common.{subst}
use Rattle.std.specs.Prelude.{Err}
use Rattle.px_callgraph.specs.JobTree.{job_tree}
use Rattle.px_spelling.specs.declared.fault.WireFault.TheVariants.{NotAMessage}
use Rattle.px_wire.specs.Messages.{IsDecoded}
use Rattle.px_pieces.specs.declared.desk.Lost.TheVariants.{Frame}
use Rattle.px_pool.specs.Outcomes.{IsFaultIn}
use Rattle.px_pool.proofs.AnswerLemmas.{names_none}
use Rattle.px_pool.proofs.ReplyLemmas.{of_lost}
use Rattle.px_pool.proofs.answers.reply_in.Goals as goal

pub returns-in-Err-NotAMessage-clause-fault : goal.returns-in-Err-NotAMessage-clause-fault
returns-in-Err-NotAMessage-clause-fault c =
    let none : IsDecoded c.args.message.now (Err NotAMessage) = subst (λ f. IsDecoded c.args.message.now (Err f)) c.in-Err-NotAMessage.field-0-is c.in-Err-NotAMessage.ensures.spelled in
    of_lost Frame (λ w. IsFaultIn 1 (job_tree c.args.job.now) c.args.message.now w) (names_none c.args.message.now none)
