use Rattle.std.proofs.Common.{◌≡◌, ◌<◌, length, Some, true, sym, subst}
use Rattle.px_pieces.specs.declared.desk.Status.TheVariants.{Held}
use Rattle.px_book.proofs.CallLemmas.{due_inside, due_by_job}
use Rattle.px_book.proofs.book.Book.is_due.Goals as goal

pub is_job-requires-clause-proc : goal.is_job-requires-clause-proc
is_job-requires-clause-proc g c =
    let i = c.self.inside in
    let h = c.in-Some-Held in
    let is : c.status.result ≡ Some (Held h.given h.field-0-1 h.field-0-2) = (let a = h.is in let d = h.field-0-is in let e = h.given-is in cc) in
    subst (λ z. c.args.job.now.proc.0 < length z) (sym c.graph.ensures) (due_inside g.H.Honesty.says i.sources i.roll i.parts i.total.total i.rest.amount i.rest.parts c.self.invariant c.args.self.now c.self.view_is h.given c.args.job.now.proc c.status.result h.field-0-1 h.field-0-2 c.status.ensures is)

pub returns-then-given-ticket : goal.returns-then-given-ticket
returns-then-given-ticket g c =
    let i = c.self.inside in
    let h = c.in-Some-Held in
    let is : c.status.result ≡ Some (Held h.given h.field-0-1 h.field-0-2) = (let a = h.is in let d = h.field-0-is in let e = h.given-is in cc) in
    let same : h.given ≡ c.args.ticket = c.if-given-ticket.true in
    due_by_job g.H.Honesty.says i.sources i.roll i.parts i.total.total i.rest.amount i.rest.parts c.self.invariant c.args.self.now c.self.view_is c.args.ticket h.given c.args.job.now c.status.result h.field-0-1 h.field-0-2
    c.graph.result.now c.as_slice.result.now (c.is_job.result ≡ true) c.status.ensures is same c.graph.ensures c.as_slice.ensures c.is_job.ensures
