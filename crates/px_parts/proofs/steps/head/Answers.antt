use Rattle.std.proofs.lemmas.Result.{err_from_is_err_and}
use Rattle.px_parts.proofs.Arrivals.{handed_on, head_stuck}
use Rattle.px_parts.proofs.steps.head.Goals as goal

pub returns-in_err-ticket-clause-stuck : goal.returns-in_err-ticket-clause-stuck
returns-in_err-ticket-clause-stuck c told =
    let p = err_from_is_err_and c.from_residual.result c.from_residual.ensures.1 in
    head_stuck c.in_err-ticket.field-0.0 c.args.bytes.now c.in_err-ticket.ensures.reads (handed_on c.from_residual.result c.in_err-ticket.field-0.0 p.0 p.1 p.2 told)
