use Rattle.std.proofs.Common.{subst, ◌≡◌, true, false}
use Rattle.std.specs.Prelude.{Err}
use Rattle.px_spelling.specs.declared.fault.WireFault.TheVariants.{NotAMessage}
use Rattle.px_wire.specs.Messages.{IsDecoded}
use Rattle.px_keep.proofs.MessageLemmas.{none_gives_none}
use Rattle.px_keep.proofs.lent.is_reply.Goals as goal

pub returns-in-Err-NotAMessage : goal.returns-in-Err-NotAMessage
returns-in-Err-NotAMessage c =
    let none : IsDecoded c.args.message.now (Err NotAMessage) = subst (λ f. IsDecoded c.args.message.now (Err f)) c.in-Err-NotAMessage.field-0-is c.in-Err-NotAMessage.ensures.spelled in
    (λ e. let z : false ≡ true = e in absurd cc, λ h. absurd (none_gives_none c.args.message.now none h))
