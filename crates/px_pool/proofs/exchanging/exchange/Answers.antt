use Rattle.std.proofs.Common.{rules, refl, sym, ap, subst, ◌∙◌, ◌≡◌, Err}
use Rattle.std.proofs.lemmas.Result.{err_from_is_err_and}
use Rattle.px_callgraph.specs.JobTree.{job_tree}
use Rattle.px_frames.specs.Frames.{frame_of}
use Rattle.px_wire.specs.Messages.{IsMessage, request}
use Rattle.px_pieces.specs.declared.desk.Lost.TheVariants.{NoMemory}
use Rattle.px_pieces.specs.Pieces.{PieceParts, AreOf, table_from}
use Rattle.px_pool.specs.declared.answers.Answer.{Answer}
use Rattle.px_pool.specs.Talks.{Talk, Passes}
use Rattle.px_pool.specs.Outcomes.{request_of, IsAnswered}
use Rattle.px_pool.proofs.ReplyLemmas.{of_lost, of_err}
use Rattle.px_pool.proofs.ExchangeLemmas.{HasCauseOf, unasked, faulty, answered, step, word, told, unasked_counts, err_counts}
use Rattle.px_pool.proofs.PieceLemmas.{message_of, no_answer}
use Rattle.px_pool.proofs.exchanging.exchange.Goals as goal

-- ---- no request

pub returns-in_err-framed-clause-cause : goal.returns-in_err-framed-clause-cause
returns-in_err-framed-clause-cause g c =
    let p = err_from_is_err_and c.from_residual.result c.from_residual.ensures.1 in
    let v = c.args.version in
    let j = job_tree c.args.job.now in
    let t0 = g.K.Link.told c.args.link.now in
    let e = c.in_err-framed.field-0.0 in
    of_err c.from_residual.result e (λ w. HasCauseOf v j t0 t0 w) (p.1 ∙ ap (λ z. Err z) p.2) (unasked v j t0 e (c.in_err-framed.ensures.unasked e refl))

pub returns-in_err-framed-clause-faults : goal.returns-in_err-framed-clause-faults
returns-in_err-framed-clause-faults g c =
    let p = err_from_is_err_and c.from_residual.result c.from_residual.ensures.1 in
    let e = c.in_err-framed.field-0.0 in
    unasked_counts c.args.version (job_tree c.args.job.now) (g.K.Link.count c.args.link.now) c.from_residual.result e (p.1 ∙ ap (λ z. Err z) p.2) (c.in_err-framed.ensures.unasked e refl)

-- ---- no answer

pub returns-in_err-answer-clause-cause : goal.returns-in_err-answer-clause-cause
returns-in_err-answer-clause-cause g c =
    let p = err_from_is_err_and c.from_residual-in_err-answer.result c.from_residual-in_err-answer.ensures.1 in
    let v = c.args.version in
    let j = job_tree c.args.job.now in
    let t0 = g.K.Link.told c.args.link.now in
    let t1 = g.K.Link.told c.ask.new.link in
    let e = c.in_err-answer.field-0.0 in
    let is : c.deref.result.now ≡ frame_of (request_of v j) = search rules in
    of_err c.from_residual-in_err-answer.result e (λ w. HasCauseOf v j t0 t1 w) (p.1 ∙ ap (λ z. Err z) p.2) (no_answer v j t0 t1 c.deref.result.now e is c.in_ok-framed.ensures.short c.in_err-answer.ensures.replied)

pub returns-in_err-answer-clause-faults : goal.returns-in_err-answer-clause-faults
returns-in_err-answer-clause-faults g c =
    let p = err_from_is_err_and c.from_residual-in_err-answer.result c.from_residual-in_err-answer.ensures.1 in
    let e = c.in_err-answer.field-0.0 in
    err_counts Answer (g.K.Link.count c.args.link.now) (g.K.Link.count c.ask.new.link) c.from_residual-in_err-answer.result e (p.1 ∙ ap (λ z. Err z) p.2) c.in_err-answer.ensures.faults

-- ---- a request that is in no range, or no memory for a copy of the job

pub returns-then-not-is_request_in_range-clause-cause : goal.returns-then-not-is_request_in_range-clause-cause
returns-then-not-is_request_in_range-clause-cause g c =
    let v = c.args.version in
    let j = job_tree c.args.job.now in
    let t0 = g.K.Link.told c.args.link.now in
    let t1 = g.K.Link.told c.ask.new.link in
    let is : c.deref.result.now ≡ frame_of (request_of v j) = search rules in
    let h = message_of v j t0 t1 c.deref.result.now c.in_ok-answer.answer c.in_ok-answer.ensures.replied in
    of_lost NoMemory (λ w. HasCauseOf v j t0 t1 w) (faulty v j t0 t1 c.deref.result.now h.message is c.in_ok-framed.ensures.short h.short h.given NoMemory tt)

pub returns-then-not-is_request_in_range-clause-faults : goal.returns-then-not-is_request_in_range-clause-faults
returns-then-not-is_request_in_range-clause-faults g c = c.in_ok-answer.ensures.faults

pub returns-in_default-clause-cause : goal.returns-in_default-clause-cause
returns-in_default-clause-cause g c =
    let v = c.args.version in
    let j = job_tree c.args.job.now in
    let t0 = g.K.Link.told c.args.link.now in
    let t1 = g.K.Link.told c.ask.new.link in
    let is : c.deref.result.now ≡ frame_of (request_of v j) = search rules in
    let h = message_of v j t0 t1 c.deref.result.now c.in_ok-answer.answer c.in_ok-answer.ensures.replied in
    of_lost NoMemory (λ w. HasCauseOf v j t0 t1 w) (faulty v j t0 t1 c.deref.result.now h.message is c.in_ok-framed.ensures.short h.short h.given NoMemory tt)

pub returns-in_default-clause-faults : goal.returns-in_default-clause-faults
returns-in_default-clause-faults g c = c.in_ok-answer.ensures.faults

-- ---- a piece

pub new-requires-clause-derived : goal.new-requires-clause-derived
new-requires-clause-derived g c =
    let v = c.args.version in
    let j = job_tree c.args.job.now in
    let t0 = g.K.Link.told c.args.link.now in
    let t1 = g.K.Link.told c.ask.new.link in
    let h = message_of v j t0 t1 c.deref.result.now c.in_ok-answer.answer c.in_ok-answer.ensures.replied in
    subst (λ z. AreOf z c.in_ok-answer.answer.entries) (sym c.in-Ok.ensures) h.jobs

pub new-requires-clause-told : goal.new-requires-clause-told
new-requires-clause-told g c =
    let v = c.args.version in
    let j = job_tree c.args.job.now in
    let t0 = g.K.Link.told c.args.link.now in
    let t1 = g.K.Link.told c.ask.new.link in
    let range : IsMessage (request j) = c.is_request_in_range.ensures.0 c.if-not-is_request_in_range.false in
    let t = table_from c.in_ok-answer.answer.entries c.in_ok-answer.answer.drops in
    let is : c.deref.result.now ≡ frame_of (request_of v j) = search rules in
    let h = message_of v j t0 t1 c.deref.result.now c.in_ok-answer.answer c.in_ok-answer.ensures.replied in
    told v j t0 t1 c.deref.result.now h.message is c.in_ok-framed.ensures.short h.short h.given g.K.Word.Honesty.says (job_tree c.in-Ok.copy) t c.in-Ok.ensures c.requires.version c.requires.step c.in_ok-answer.ensures.word range h.table

pub returns-clause-answered : goal.returns-clause-answered
returns-clause-answered g c =
    let v = c.args.version in
    let j = job_tree c.args.job.now in
    let t0 = g.K.Link.told c.args.link.now in
    let t1 = g.K.Link.told c.ask.new.link in
    let t = table_from c.in_ok-answer.answer.entries c.in_ok-answer.answer.drops in
    let is : c.deref.result.now ≡ frame_of (request_of v j) = search rules in
    let h = message_of v j t0 t1 c.deref.result.now c.in_ok-answer.answer c.in_ok-answer.ensures.replied in
    let same : table_from c.new.result.entries c.new.result.drops ≡ t = ap (λ (p : PieceParts). table_from p.entries p.drops) c.new.ensures in
    subst (λ z. (x : Talk) × Passes t0 t1 x × IsAnswered v j x z) (sym same) (answered v j t0 t1 c.deref.result.now h.message is c.in_ok-framed.ensures.short h.short h.given t h.table)

pub returns-clause-word : goal.returns-clause-word
returns-clause-word g c =
    let v = c.args.version in
    let j = job_tree c.args.job.now in
    let t0 = g.K.Link.told c.args.link.now in
    let t1 = g.K.Link.told c.ask.new.link in
    let range : IsMessage (request j) = c.is_request_in_range.ensures.0 c.if-not-is_request_in_range.false in
    let t = table_from c.in_ok-answer.answer.entries c.in_ok-answer.answer.drops in
    let is : c.deref.result.now ≡ frame_of (request_of v j) = search rules in
    let h = message_of v j t0 t1 c.deref.result.now c.in_ok-answer.answer c.in_ok-answer.ensures.replied in
    let same : table_from c.new.result.entries c.new.result.drops ≡ t = ap (λ (p : PieceParts). table_from p.entries p.drops) c.new.ensures in
    subst (λ z. g.K.Word.Honesty.says j z) (sym same)
    (word v j t0 t1 c.deref.result.now h.message is c.in_ok-framed.ensures.short h.short h.given g.K.Word.Honesty.says t c.requires.version c.requires.step c.in_ok-answer.ensures.word range h.table)

pub returns-clause-step : goal.returns-clause-step
returns-clause-step g c =
    let v = c.args.version in
    let j = job_tree c.args.job.now in
    let t0 = g.K.Link.told c.args.link.now in
    let t1 = g.K.Link.told c.ask.new.link in
    let is : c.deref.result.now ≡ frame_of (request_of v j) = search rules in
    let h = message_of v j t0 t1 c.deref.result.now c.in_ok-answer.answer c.in_ok-answer.ensures.replied in
    step v j t0 t1 c.deref.result.now h.message is c.in_ok-framed.ensures.short h.short h.given c.requires.step
