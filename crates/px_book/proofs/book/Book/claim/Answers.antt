use Rattle.std.proofs.Common.{◌<◌, length, sym, ap, subst, ◌∙◌}
use Rattle.px_book.proofs.CallLemmas.{given_none, next_inside, claim_is, kept_next, given_some, claimed_is}
use Rattle.px_book.proofs.book.Book.claim.Goals as goal

pub returns-in_default-clause-given : goal.returns-in_default-clause-given
returns-in_default-clause-given g c = let i = c.self.inside in given_none g.H.Honesty.says i.sources i.roll i.parts i.total.total i.rest.amount i.rest.parts c.self.invariant c.args.self.now c.self.view_is c.args.who c.next.result c.in_default.is c.next.ensures

pub job-requires-clause-proc : goal.job-requires-clause-proc
job-requires-clause-proc g c =
    let i = c.self.inside in
    subst (λ z. c.in-Some.proc.0 < length z) (sym c.graph.ensures) (next_inside g.H.Honesty.says i.sources i.roll i.parts i.total.total i.rest.amount i.rest.parts c.self.invariant c.args.self.now c.self.view_is c.args.who c.in-Some.proc c.next.result c.in-Some.is c.next.ensures)

pub invariant_of-self-2 : goal.invariant_of-self-2
invariant_of-self-2 g c =
    let i = c.self.inside in
    kept_next g.H.Honesty.says i.sources i.roll i.parts i.total.total i.rest.amount i.rest.parts c.self.invariant c.args.self.now c.self.view_is c.args.who c.in-Some.proc c.next.result c.in-Some.is c.next.ensures c.claim.new.self
    (claim_is g.H.Honesty.says i.sources i.roll i.parts i.total.total i.rest.amount i.rest.parts c.self.invariant c.args.self.now c.self.view_is c.args.who c.in-Some.proc c.next.result c.in-Some.is c.next.ensures c.claim.new.self c.in_ok-claim.field-0 c.in_ok-claim.ensures.next c.in_ok-claim.ensures.claimed)

pub returns-clause-given : goal.returns-clause-given
returns-clause-given g c =
    let i = c.self.inside in
    given_some g.H.Honesty.says i.sources i.roll i.parts i.total.total i.rest.amount i.rest.parts c.self.invariant c.args.self.now c.self.view_is c.args.who c.in-Some.proc c.next.result c.in-Some.is c.next.ensures
    c.graph.result.now c.as_slice.result.now c.in_ok-job.job c.graph.ensures c.as_slice.ensures c.in_ok-job.ensures.job (c.in_ok-job.ensures.ticket ∙ ap length c.history.ensures.events)

pub returns-clause-claimed : goal.returns-clause-claimed
returns-clause-claimed g c =
    let i = c.self.inside in
    claimed_is g.H.Honesty.says i.sources i.roll i.parts i.total.total i.rest.amount i.rest.parts c.self.invariant c.args.self.now c.self.view_is c.args.who c.in-Some.proc c.next.result c.in-Some.is c.next.ensures
    c.graph.result.now c.as_slice.result.now c.in_ok-job.job c.graph.ensures c.as_slice.ensures c.in_ok-job.ensures.job c.claim.new.self
    (claim_is g.H.Honesty.says i.sources i.roll i.parts i.total.total i.rest.amount i.rest.parts c.self.invariant c.args.self.now c.self.view_is c.args.who c.in-Some.proc c.next.result c.in-Some.is c.next.ensures c.claim.new.self c.in_ok-claim.field-0 c.in_ok-claim.ensures.next c.in_ok-claim.ensures.claimed)
