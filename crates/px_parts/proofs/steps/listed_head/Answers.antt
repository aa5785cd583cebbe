use Rattle.std.proofs.Common.{refl}
use Rattle.std.proofs.lemmas.Result.{err_from_is_err_and}
use Rattle.px_parts.proofs.Arrivals.{handed_on, listed_head_arrives, list_stuck, behind_list_stuck, twice_stuck}
use Rattle.px_parts.proofs.steps.listed_head.Goals as goal

pub returns-in_err-all-clause-stuck : goal.returns-in_err-all-clause-stuck
returns-in_err-all-clause-stuck c told =
    let p = err_from_is_err_and c.from_residual.result c.from_residual.ensures.1 in
    list_stuck c.in_err-all.field-0.0 c.args.bytes.now c.in_err-all.ensures.reads (handed_on c.from_residual.result c.in_err-all.field-0.0 p.0 p.1 p.2 told)

pub returns-in_default-clause-stuck : goal.returns-in_default-clause-stuck
returns-in_default-clause-stuck c told =
    twice_stuck c.args.bytes.now c.in_ok-all.rest.now c.in_ok-all.all c.in_ok-all.ensures.reads (λ differ. let some = (rw c.in_default.is at c.in_ok-list.ensures.differ.1 differ) in absurd cc)

pub returns-in_err-ticket-clause-stuck : goal.returns-in_err-ticket-clause-stuck
returns-in_err-ticket-clause-stuck c told =
    let r = c.from_residual-in_err-ticket.result in
    let e = c.in_err-ticket.field-0.0 in
    let p = err_from_is_err_and r c.from_residual-in_err-ticket.ensures.1 in
    behind_list_stuck e c.args.bytes.now c.in_ok-all.rest.now c.in_ok-all.all c.in_ok-all.ensures.reads c.in_err-ticket.ensures.reads (handed_on r e p.0 p.1 p.2 told)

pub returns-clause-arrives : goal.returns-clause-arrives
returns-clause-arrives c =
    listed_head_arrives c.in_ok-all.all c.in-Some.list c.in_ok-ticket.ticket c.in_ok-ticket.kinds c.args.bytes.now c.in_ok-all.rest.now c.in_ok-ticket.rest.now c.in_ok-all.ensures.spelled.0 c.in_ok-all.ensures.spelled.1
    (rw c.in-Some.is at c.in_ok-list.ensures.same) ((rw c.in-Some.is at c.in_ok-list.ensures.differ).0 refl) c.in_ok-ticket.ensures.spelled.1 c.in_ok-ticket.ensures.spelled.0
