use Rattle.std.proofs.Common.{sym, ◌∙◌}
use Rattle.px_keep.proofs.ReadLemmas.{no_second, not_asked, not_given, is_lent}
use Rattle.px_keep.proofs.lent.first_item.Goals as goal

pub returns-in_default-first_frame-clause-none : goal.returns-in_default-first_frame-clause-none
returns-in_default-first_frame-clause-none c = no_second c.args.bytes.now c.in-Some.asked.now c.in-Some.behind.now c.in-Some.ensures.found c.in_default-first_frame.ensures.none

pub returns-in_default-2-clause-none : goal.returns-in_default-2-clause-none
returns-in_default-2-clause-none c =
    not_asked c.args.bytes.now c.in-Some.asked.now c.in-Some.behind.now c.in-Some-first_frame.given.now c.in-Some-first_frame.rest.now c.in-Some.ensures.found c.in-Some-first_frame.ensures.found
    (rw c.in_default-2.is at c.in_ok-proc.ensures.none)

pub returns-then-not-branch-clause-none : goal.returns-then-not-branch-clause-none
returns-then-not-branch-clause-none c =
    not_given c.args.bytes.now c.in-Some.asked.now c.in-Some.behind.now c.in-Some-first_frame.given.now c.in-Some-first_frame.rest.now c.in-Some.ensures.found c.in-Some-first_frame.ensures.found
    (λ h. let clash = sym (c.in_ok-is_reply.ensures.1 h) ∙ c.if-not-branch.true in cc)

pub returns-clause-lent : goal.returns-clause-lent
returns-clause-lent c =
    is_lent (record { proc = c.in-Some-2.proc; asked = c.in-Some.asked; given = c.in-Some-first_frame.given }) c.in-Some.ensures.found.0 c.in-Some-first_frame.ensures.found.0
    (rw c.in-Some-2.is at c.in_ok-proc.ensures.some) (c.in_ok-is_reply.ensures.0 c.if-not-branch.false)
