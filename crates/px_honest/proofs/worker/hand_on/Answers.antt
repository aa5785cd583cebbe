use Rattle.std.proofs.Common.{rules, ◌≡◌, refl, sym, subst, true, false, map}
use Rattle.px_worker.specs.Courses.{IsOn}
use Rattle.px_honest.specs.HonestLinks.{GoesOn}
use Rattle.px_honest.proofs.HonestLemmas.{goes_on, stops_at, stops_before}
use Rattle.px_honest.proofs.worker.hand_on.Goals as goal

pub returns-then-not-may_help : goal.returns-then-not-may_help
returns-then-not-may_help g c = λ sent on.
    stops_before c.args.known c.args.kinds.now sent c.args.bytes.now c.args.written.now.bytes.items c.args.course.now c.args.course.now on

pub returns-in-Ok : goal.returns-in-Ok
returns-in-Ok g c = λ sent on.
    let kinds = map (λ b. (goal.Domain-dyn g (b.vtable, b.value)).number b.value) c.args.domains.now.items in
    let same : c.args.kinds.now ≡ kinds = search rules in
    let old = c.args.written.now.bytes.items in
    let new = c.take.new.sink.bytes.items in
    subst (λ k. GoesOn c.args.known k sent c.args.bytes.now old new c.take.new.self false) (sym same)
    (goes_on c.args.known kinds sent c.args.bytes.now old new c.args.course.now c.take.new.self c.in-Ok.ensures.on c.in-Ok.ensures.part (subst (λ k. IsOn c.args.known k sent old c.args.course.now) same on))

pub returns-in-Err : goal.returns-in-Err
returns-in-Err g c = λ sent on.
    let kinds = map (λ b. (goal.Domain-dyn g (b.vtable, b.value)).number b.value) c.args.domains.now.items in
    let same : c.args.kinds.now ≡ kinds = search rules in
    let old = c.args.written.now.bytes.items in
    let new = c.take.new.sink.bytes.items in
    subst (λ k. GoesOn c.args.known k sent c.args.bytes.now old new c.take.new.self true) (sym same)
    (stops_at c.args.known kinds sent c.args.bytes.now old new c.args.course.now c.take.new.self c.in-Err.field-0 (c.in-Err.ensures.stops c.in-Err.field-0 refl)
    (subst (λ k. IsOn c.args.known k sent old c.args.course.now) same on))
