use Rattle.std.proofs.lemmas.Result.{err_from_is_err_and}
use Rattle.px_wire.proofs.Listed.{fails_first}
use Rattle.px_wire.proofs.decoding.decode_full.Goals as goal

pub returns-in_err-message : goal.returns-in_err-message
returns-in_err-message c =
    let p = err_from_is_err_and c.from_residual.result c.from_residual.ensures.1 in
    record { spelled = rw (p.1, p.2) (fails_first c.in_err-message.field-0.0 c.args.bytes.now c.in_err-message.ensures.spelled) }
