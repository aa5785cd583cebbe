use Rattle.std.proofs.Common.{refl}
use Rattle.px_calls.proofs.AssumeLemmas.{stands_not, newly_assumed}
use Rattle.px_calls.proofs.assuming.assume_short.Goals as goal

pub returns-clause-assumed : goal.returns-clause-assumed
returns-clause-assumed c = λ stood long e h.
    let a = c.args in
    newly_assumed a.vars.now a.pure.now stood long a.assumed.now (record { added = c.push.new.self; count = c.in_ok-assumed.field-0; long = a.assumed.now.long }) a.conjunct e
    (stands_not a.vars.now a.pure.now a.assumed.now.added c.as_slice.result.now a.conjunct c.stands_by_now.result c.as_slice.ensures (c.stands_by_now.ensures e) c.if-stands_by_now.false)
    c.in_ok-assumed.ensures refl c.in_ok-push.ensures.added h
