use Rattle.std.proofs.Common.{rules, refl, sym, ap, subst, ◌∙◌, ◌<◌, length, map, take, Ok, Err}
use Rattle.std.proofs.lemmas.Result.{err_from_is_err_and}
use Rattle.px_worker.specs.declared.faults.ServeFault.TheVariants.{Bad}
use Rattle.px_worker.specs.Courses.{IsTurn}
use Rattle.px_worker.proofs.ServeLemmas.{end_whole, end_within, stand_next, serves_stop, serves_unread, serves_end}
use Rattle.px_worker.proofs.serving.serve_piece.Goals as goal

pub returns-in_default-clause-turn : goal.returns-in_default-clause-turn
returns-in_default-clause-turn g c = λ s0 k0 st.
    serves_unread c.answers_begin.ensures 2 (map (λ b. (goal.Domain-dyn g (b.vtable, b.value)).number b.value) c.args.domains.now.items) s0 (g.I.Source.told c.args.source.now) (g.I.Source.told c.read.new.self)
    k0 (g.K.Sink.told c.args.sink.now) c.args.course.now st c.in_default.ensures.bytes

pub returns-then-course-clause-turn : goal.returns-then-course-clause-turn
returns-then-course-clause-turn g c = λ s0 k0 st.
    let some : 0 < length c.read.new.into = search rules in
    serves_end c.answers_begin.ensures 2 (map (λ b. (goal.Domain-dyn g (b.vtable, b.value)).number b.value) c.args.domains.now.items) (take c.in-Ok.count c.read.new.into)
    s0 (g.I.Source.told c.args.source.now) (g.I.Source.told c.read.new.self) k0 (g.K.Sink.told c.args.sink.now) c.args.course.now (Err (Bad c.args.course.now.place)) st
    c.in-Ok.ensures.bytes.0 (ap (λ n. take n c.read.new.into) c.if-count-eq0.true) (c.in-Ok.ensures.bytes.1 c.if-count-eq0.true some)
    (λ known kinds read written on. end_within known kinds read written c.args.course.now c.if-course.true c.requires.part on)

pub returns-then-count-eq0-clause-turn : goal.returns-then-count-eq0-clause-turn
returns-then-count-eq0-clause-turn g c = λ s0 k0 st.
    let some : 0 < length c.read.new.into = search rules in
    serves_end c.answers_begin.ensures 2 (map (λ b. (goal.Domain-dyn g (b.vtable, b.value)).number b.value) c.args.domains.now.items) (take c.in-Ok.count c.read.new.into)
    s0 (g.I.Source.told c.args.source.now) (g.I.Source.told c.read.new.self) k0 (g.K.Sink.told c.args.sink.now) c.args.course.now (Ok tt) st
    c.in-Ok.ensures.bytes.0 (ap (λ n. take n c.read.new.into) c.if-count-eq0.true) (c.in-Ok.ensures.bytes.1 c.if-count-eq0.true some)
    (λ known kinds read written on. end_whole known kinds read written c.args.course.now c.if-course.false on)

pub returns-in_err-take-clause-turn : goal.returns-in_err-take-clause-turn
returns-in_err-take-clause-turn g c =
    let p = err_from_is_err_and c.from_residual.result c.from_residual.ensures.1 in
    let kinds = map (λ b. (goal.Domain-dyn g (b.vtable, b.value)).number b.value) c.args.domains.now.items in
    let s1 = g.I.Source.told c.args.source.now in
    let s2 = g.I.Source.told c.read.new.self in
    let k1 = g.K.Sink.told c.args.sink.now in
    let k2 = g.K.Sink.told c.take.new.sink in
    let e = c.in_err-take.field-0.0 in
    subst (λ r. IsTurn 2 kinds c.args.course.now c.take.new.self s1 s2 k1 k2 r) (sym (p.1 ∙ ap (λ z. Err z) p.2))
    (λ s0 k0 st. serves_stop c.answers_begin.ensures 2 kinds (take c.in-Ok.count c.read.new.into) s0 s1 s2 k0 k1 k2 c.args.course.now e st c.in-Ok.ensures.bytes.0 (c.in_err-take.ensures.stops e refl))

pub returns-clause-turn : goal.returns-clause-turn
returns-clause-turn g c = λ s0 k0 st.
    stand_next 2 (map (λ b. (goal.Domain-dyn g (b.vtable, b.value)).number b.value) c.args.domains.now.items) (take c.in-Ok.count c.read.new.into)
    s0 (g.I.Source.told c.args.source.now) (g.I.Source.told c.read.new.self) k0 (g.K.Sink.told c.args.sink.now) (g.K.Sink.told c.take.new.sink) c.args.course.now c.take.new.self st
    c.in-Ok.ensures.bytes.0 c.in_ok-take.ensures.on c.in_ok-take.ensures.part
