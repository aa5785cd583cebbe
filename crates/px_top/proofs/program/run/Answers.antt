use Rattle.std.proofs.Common.{◌≡◌, List, map, Some, option_map, subst}
use Rattle.px_base.specs.Texts.{texts}
use Rattle.px_words.specs.Samples as sample
use Rattle.px_io.specs.Reads.{Given}
use Rattle.px_lines.specs.Sinks.{change}
use Rattle.px_loading.specs.Stops.{GivesAll}
use Rattle.px_rechecking.specs.Answers.{AnswersKeep}
use Rattle.px_top.specs.Words.{request_of, request_on, command_of, view_of, check_view}
use Rattle.px_top.specs.Runs.{IsAnswered}
use Rattle.px_top.proofs.RunLemmas.{report_answered, keep_answered, worker_answered, sample_answered, memory_answered, no_worker}
use Rattle.px_top.proofs.program.run.Goals as goal

pub returns-in-Ok-Some-Worker-clause-answers : goal.returns-in-Ok-Some-Worker-clause-answers
returns-in-Ok-Some-Worker-clause-answers g c =
    let f = g.F.Files in
    let i = g.I.Source in
    let k = g.K.Sink in
    let e = g.E.Sink in
    let a = c.args in
    let says = g.S.Link.Word.Honesty.says in
    let told = g.S.Spawner.told in
    let kinds = map (λ b. (goal.Domain-dyn g (b.vtable, b.value)).number b.value) a.domains.now.items in
    let w = c.work_in_order in
    let t = c.told in
    subst (λ o. IsAnswered says (told a.spawner.now) (told a.spawner.now) kinds f.told f.count f.gives a.files.now a.files.now i.told i.count a.input.now w.new.input k.told k.count a.out.now w.new.out e.told e.count a.err.now t.new.err (request_on o) t.result)
    (subst (λ x. option_map view_of (Some x) ≡ command_of (texts a.words.now)) c.in-Ok-Some-Worker.field-0-0-is
    (subst (λ o. option_map view_of o ≡ command_of (texts a.words.now)) c.in-Ok-Some-Worker.field-0-is c.in-Ok-Some-Worker.ensures.command))
    (worker_answered says (told a.spawner.now) (told a.spawner.now) kinds f.told f.count f.gives a.files.now i.told i.count a.input.now w.new.input k.told k.count a.out.now w.new.out e.told e.count a.err.now t.new.err w.result t.result w.ensures.works t.ensures.status t.ensures.line)

pub returns-in-Ok-Some-Sample-clause-answers : goal.returns-in-Ok-Some-Sample-clause-answers
returns-in-Ok-Some-Sample-clause-answers g c =
    let f = g.F.Files in
    let i = g.I.Source in
    let k = g.K.Sink in
    let e = g.E.Sink in
    let a = c.args in
    let says = g.S.Link.Word.Honesty.says in
    let told = g.S.Spawner.told in
    let kinds = map (λ b. (goal.Domain-dyn g (b.vtable, b.value)).number b.value) a.domains.now.items in
    let w = c.write_sample in
    let t = c.told-in-Ok-Some-Sample in
    subst (λ o. IsAnswered says (told a.spawner.now) (told a.spawner.now) kinds f.told f.count f.gives a.files.now a.files.now i.told i.count a.input.now a.input.now k.told k.count a.out.now w.new.out e.told e.count a.err.now t.new.err (request_on o) t.result)
    (subst (λ x. option_map view_of (Some x) ≡ command_of (texts a.words.now)) c.in-Ok-Some-Sample.field-0-0-is
    (subst (λ o. option_map view_of o ≡ command_of (texts a.words.now)) c.in-Ok-Some-Sample.field-0-is c.in-Ok-Some-Sample.ensures.command))
    (sample_answered says (told a.spawner.now) (told a.spawner.now) kinds f.told f.count f.gives a.files.now i.told i.count a.input.now k.told k.count a.out.now w.new.out e.told e.count a.err.now t.new.err (sample.view_of c.in-Ok-Some-Sample.asked) w.result t.result w.ensures.answers t.ensures.status t.ensures.line w.ensures.quiet)

pub returns-in-Err-clause-answers : goal.returns-in-Err-clause-answers
returns-in-Err-clause-answers g c =
    let f = g.F.Files in
    let i = g.I.Source in
    let k = g.K.Sink in
    let e = g.E.Sink in
    let a = c.args in
    let says = g.S.Link.Word.Honesty.says in
    let told = g.S.Spawner.told in
    let kinds = map (λ b. (goal.Domain-dyn g (b.vtable, b.value)).number b.value) a.domains.now.items in
    let t = c.tell-in-Err in
    memory_answered says (told a.spawner.now) (told a.spawner.now) kinds f.told f.count f.gives a.files.now i.told i.count a.input.now k.told k.count a.out.now e.told e.count a.err.now t.new.err (request_of a.words.now) t.result
    (no_worker (command_of (texts a.words.now)) c.in-Err.ensures.needy) t.ensures.status t.ensures.line

pub returns-in-Ok-Some-Check-clause-answers : goal.returns-in-Ok-Some-Check-clause-answers
returns-in-Ok-Some-Check-clause-answers g c =
    let f = g.F.Files in
    let i = g.I.Source in
    let k = g.K.Sink in
    let e = g.E.Sink in
    let a = c.args in
    let says = g.S.Link.Word.Honesty.says in
    let told = g.S.Spawner.told in
    let kinds = map (λ b. (goal.Domain-dyn g (b.vtable, b.value)).number b.value) a.domains.now.items in
    let r = c.report in
    subst (λ o. IsAnswered says (told a.spawner.now) (told r.new.spawner) kinds f.told f.count f.gives a.files.now r.new.files i.told i.count a.input.now a.input.now k.told k.count a.out.now r.new.out e.told e.count a.err.now r.new.err (request_on o) r.result)
    (subst (λ x. option_map view_of (Some x) ≡ command_of (texts a.words.now)) c.in-Ok-Some-Check.field-0-0-is
    (subst (λ o. option_map view_of o ≡ command_of (texts a.words.now)) c.in-Ok-Some-Check.field-0-is c.in-Ok-Some-Check.ensures.command))
    (report_answered says (told a.spawner.now) (told r.new.spawner) kinds f.told f.count f.gives a.files.now r.new.files i.told i.count a.input.now k.told k.count a.out.now r.new.out e.told e.count a.err.now r.new.err (check_view c.in-Ok-Some-Check.asked) r.result r.ensures.answers r.ensures.quiet)

pub returns-in-Ok-Some-Keep-clause-answers : goal.returns-in-Ok-Some-Keep-clause-answers
returns-in-Ok-Some-Keep-clause-answers g c =
    let f = g.F.Files in
    let i = g.I.Source in
    let k = g.K.Sink in
    let e = g.E.Sink in
    let a = c.args in
    let says = g.S.Link.Word.Honesty.says in
    let told = g.S.Spawner.told in
    let kinds = map (λ b. (goal.Domain-dyn g (b.vtable, b.value)).number b.value) a.domains.now.items in
    let r = c.keep_files in
    let x = c.in-Ok-Some-Keep.asked in
    subst (λ o. IsAnswered says (told a.spawner.now) (told a.spawner.now) kinds f.told f.count f.gives a.files.now r.new.files i.told i.count a.input.now a.input.now k.told k.count a.out.now r.new.out e.told e.count a.err.now r.new.err (request_on o) r.result)
    (subst (λ x. option_map view_of (Some x) ≡ command_of (texts a.words.now)) c.in-Ok-Some-Keep.field-0-0-is
    (subst (λ o. option_map view_of o ≡ command_of (texts a.words.now)) c.in-Ok-Some-Keep.field-0-is c.in-Ok-Some-Keep.ensures.command))
    (keep_answered says (told a.spawner.now) (told a.spawner.now) kinds f.told f.count f.gives a.files.now r.new.files i.told i.count a.input.now k.told k.count a.out.now r.new.out e.told e.count a.err.now r.new.err (check_view x) r.result
    (subst (λ ns. (given : List Given) × GivesAll f.told f.count f.gives a.files.now r.new.files (texts ns) given × AnswersKeep x.check.limits kinds (texts ns) given (change k.told k.count a.out.now r.new.out) (change e.told e.count a.err.now r.new.err) (r.new.err ≡ a.err.now) r.result) c.deref.ensures.value r.ensures.answers)
    r.ensures.quiet)
