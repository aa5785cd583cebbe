use Rattle.std.proofs.Common.{rules, ◌≡◌, refl, sym, ap, subst, ◌∙◌, ◌+◌, true, false, ℕ, length, map, Result, Ok, Err}
use Rattle.std.proofs.Math.Seq.{take-length}
use Rattle.std.proofs.lemmas.Result.{err_from_is_err_and}
use Rattle.px_frames.specs.Feeding.{IsFed}
use Rattle.px_worker.specs.declared.course.Course.{Course}
use Rattle.px_worker.specs.declared.faults.ServeFault.{ServeFault as AFault}
use Rattle.px_worker.specs.declared.faults.ServeFault.TheVariants.{Bad, NoMemory}
use Rattle.px_worker.specs.Courses.{OnAfter, StopsAfter, Speaks}
use Rattle.px_worker.proofs.CourseLemmas.{takes_some, takes_within, open_whole, on_held, on_whole, stops_whole, stops_long, stops_memory, same_error}
use Rattle.px_worker.proofs.course.answer_first.Goals as goal

pub returns-in_err-answer_message-in-Ok-Whole-clause-stops : goal.returns-in_err-answer_message-in-Ok-Whole-clause-stops
returns-in_err-answer_message-in-Ok-Whole-clause-stops g c = λ fault h.
    let p = err_from_is_err_and c.from_residual.result c.from_residual.ensures.1 in
    let kinds = map (λ b. (goal.Domain-dyn g (b.vtable, b.value)).number b.value) c.args.domains.now.items in
    let old = g.K.Sink.told c.args.sink.now in
    let new = g.K.Sink.told c.answer_message.new.sink in
    let e = c.in_err-answer_message-in-Ok-Whole.field-0.0 in
    let fed = subst (λ f. IsFed c.args.course.now.feeder c.args.piece.now (Ok f) c.feed.new.self) c.in-Ok-Whole.field-0-is c.in-Ok-Whole.ensures in
    let speaks = subst (λ m. Speaks c.args.known kinds m c.args.course.now.place old new (Err e)) c.deref.ensures.value c.in_err-answer_message-in-Ok-Whole.ensures.speaks in
    subst (λ f. StopsAfter c.args.known kinds c.args.course.now c.args.piece.now old new f) (same_error c.from_residual.result e fault (p.1 ∙ ap (λ z. Err z) p.2) h)
    (stops_whole c.one_spelling.ensures c.args.known kinds c.args.course.now c.feed.new.self c.args.piece.now c.in-Ok-Whole.message c.in-Ok-Whole.taken old new e fed speaks)

pub returns-in-Ok-Held-clause-on : goal.returns-in-Ok-Held-clause-on
returns-in-Ok-Held-clause-on g c =
    let kinds = map (λ b. (goal.Domain-dyn g (b.vtable, b.value)).number b.value) c.args.domains.now.items in
    let old = g.K.Sink.told c.args.sink.now in
    let after : Course = record { feeder = c.feed.new.self; place = c.args.course.now.place; begun = true } in
    let fed = subst (λ f. IsFed c.args.course.now.feeder c.args.piece.now (Ok f) c.feed.new.self) c.in-Ok-Held.field-0-is c.in-Ok-Held.ensures in
    subst (λ l. OnAfter c.args.known kinds c.args.course.now after l old old) (sym (take-length c.args.piece.now))
    (on_held c.args.known kinds c.args.course.now after c.feed.new.self c.args.piece.now old fed c.requires.some refl refl refl)

pub returns-in_ok-answer_message-in-Ok-Whole-clause-on : goal.returns-in_ok-answer_message-in-Ok-Whole-clause-on
returns-in_ok-answer_message-in-Ok-Whole-clause-on g c =
    let kinds = map (λ b. (goal.Domain-dyn g (b.vtable, b.value)).number b.value) c.args.domains.now.items in
    let old = g.K.Sink.told c.args.sink.now in
    let new = g.K.Sink.told c.answer_message.new.sink in
    let after : Course = record { feeder = c.feed.new.self; place = c.saturating_add-course.result; begun = false } in
    let fed = subst (λ f. IsFed c.args.course.now.feeder c.args.piece.now (Ok f) c.feed.new.self) c.in-Ok-Whole.field-0-is c.in-Ok-Whole.ensures in
    let speaks = subst (λ m. Speaks c.args.known kinds m c.args.course.now.place old new (Ok tt)) c.deref.ensures.value c.in_ok-answer_message-in-Ok-Whole.ensures.speaks in
    let sized : 4 + c.len.result ≡ 4 + length c.in-Ok-Whole.message.items = search rules in
    on_whole c.args.known kinds c.args.course.now after c.feed.new.self c.args.piece.now c.in-Ok-Whole.message c.in-Ok-Whole.taken (4 + c.len.result) old new fed speaks refl c.saturating_add-course.ensures sized refl

pub returns-in-Err-TooLong-clause-stops : goal.returns-in-Err-TooLong-clause-stops
returns-in-Err-TooLong-clause-stops g c = λ fault h.
    let kinds = map (λ b. (goal.Domain-dyn g (b.vtable, b.value)).number b.value) c.args.domains.now.items in
    let old = g.K.Sink.told c.args.sink.now in
    let given : Result ℕ AFault = Err (Bad c.args.course.now.place) in
    let fed = subst (λ e. IsFed c.args.course.now.feeder c.args.piece.now (Err e) c.feed.new.self) c.in-Err-TooLong.field-0-is c.in-Err-TooLong.ensures in
    subst (λ f. StopsAfter c.args.known kinds c.args.course.now c.args.piece.now old old f) (same_error given (Bad c.args.course.now.place) fault refl h)
    (stops_long c.args.known kinds c.args.course.now c.feed.new.self c.args.piece.now old c.in-Err-TooLong.field-0-0 fed)

pub returns-in-Err-NoMemory-clause-stops : goal.returns-in-Err-NoMemory-clause-stops
returns-in-Err-NoMemory-clause-stops g c = λ fault h.
    let kinds = map (λ b. (goal.Domain-dyn g (b.vtable, b.value)).number b.value) c.args.domains.now.items in
    let old = g.K.Sink.told c.args.sink.now in
    let given : Result ℕ AFault = Err NoMemory in
    subst (λ f. StopsAfter c.args.known kinds c.args.course.now c.args.piece.now old old f) (same_error given NoMemory fault refl h)
    (stops_memory c.args.known kinds c.args.course.now c.args.piece.now old)

pub returns-in_ok-answer_message-in-Ok-Whole-clause-taken : goal.returns-in_ok-answer_message-in-Ok-Whole-clause-taken
returns-in_ok-answer_message-in-Ok-Whole-clause-taken g c =
    let fed = subst (λ f. IsFed c.args.course.now.feeder c.args.piece.now (Ok f) c.feed.new.self) c.in-Ok-Whole.field-0-is c.in-Ok-Whole.ensures in (
      takes_some c.args.course.now.feeder c.feed.new.self c.args.piece.now c.in-Ok-Whole.message c.in-Ok-Whole.taken c.requires.part fed,
      takes_within c.args.course.now.feeder c.feed.new.self c.args.piece.now c.in-Ok-Whole.message c.in-Ok-Whole.taken c.requires.part fed,
    )

pub returns-in_ok-answer_message-in-Ok-Whole-clause-part : goal.returns-in_ok-answer_message-in-Ok-Whole-clause-part
returns-in_ok-answer_message-in-Ok-Whole-clause-part g c =
    let fed = subst (λ f. IsFed c.args.course.now.feeder c.args.piece.now (Ok f) c.feed.new.self) c.in-Ok-Whole.field-0-is c.in-Ok-Whole.ensures in
    open_whole c.args.course.now.feeder c.feed.new.self c.args.piece.now c.in-Ok-Whole.message c.in-Ok-Whole.taken c.requires.part fed
