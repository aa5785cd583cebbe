use Rattle.std.proofs.lemmas.Result.{err_from_is_err_and}
use Rattle.px_parts.proofs.Arrivals.{handed_on, drop_count_stuck}
use Rattle.px_parts.proofs.steps.count_of_drops.Goals as goal

pub returns-in_err-left-clause-stuck : goal.returns-in_err-left-clause-stuck
returns-in_err-left-clause-stuck c told =
    let p = err_from_is_err_and c.from_residual.result c.from_residual.ensures.1 in
    drop_count_stuck c.args.terms.now c.in_err-left.field-0.0 c.args.rows c.args.named c.args.bytes.now c.in_err-left.ensures.reads (handed_on c.from_residual.result c.in_err-left.field-0.0 p.0 p.1 p.2 told)
