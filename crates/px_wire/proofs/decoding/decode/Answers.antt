use Rattle.std.proofs.lemmas.Result.{err_from_is_err_and}
use Rattle.px_wire.specs.Versions.{message_tree}
use Rattle.px_wire.proofs.MessageRoundTrips.{fails_is_decoded, more_is_none}
use Rattle.px_wire.proofs.decoding.decode.Goals as goal

pub returns-in_err-message-clause-spelled : goal.returns-in_err-message-clause-spelled
returns-in_err-message-clause-spelled c =
    let p = err_from_is_err_and c.from_residual.result c.from_residual.ensures.1 in
    rw (p.1, p.2) (fails_is_decoded c.in_err-message.field-0.0 c.args.bytes.now c.in_err-message.ensures.reads)

pub returns-in-len1-up-clause-spelled : goal.returns-in-len1-up-clause-spelled
returns-in-len1-up-clause-spelled c =
    let m = c.in_ok-message.message in
    more_is_none c.args.bytes.now c.in_ok-message.rest.now (m.version, message_tree m) c.in_ok-message.ensures.reads c.in-len1-up.len_at_least
