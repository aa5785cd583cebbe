use Rattle.std.proofs.Common.{Err, ap}
use Rattle.std.proofs.lemmas.Result.{err_from_is_err_and}
use Rattle.px_parts.proofs.Arrivals.{handed_on, entry_stuck, entry_passes_over}
use Rattle.px_parts.proofs.steps.next_entry.Goals as goal

pub returns-in_err-entry-clause-stuck : goal.returns-in_err-entry-clause-stuck
returns-in_err-entry-clause-stuck c told =
    let p = err_from_is_err_and c.from_residual.result c.from_residual.ensures.1 in
    entry_stuck c.args.terms.now c.in_err-entry.field-0.0 c.args.left c.args.rows c.args.named c.args.bytes.now c.if-left-eq0.false c.in_err-entry.ensures.reads
    (handed_on c.from_residual.result c.in_err-entry.field-0.0 p.0 p.1 p.2 told)

pub returns-in_err-named-clause-stuck : goal.returns-in_err-named-clause-stuck
returns-in_err-named-clause-stuck c told =
    let r = c.from_residual-in_err-named.result in
    let e = c.in_err-named.field-0.0 in
    let p = err_from_is_err_and r c.from_residual-in_err-named.ensures.1 in
    entry_passes_over c.args.terms.now c.args.left c.args.rows c.args.named c.in_ok-entry.entry c.args.bytes.now c.in_ok-entry.rest.now c.if-left-eq0.false c.in_ok-entry.ensures.reads
    (c.in_err-named.ensures.wrong (ap (λ f. Err f) (handed_on r e p.0 p.1 p.2 told)))
