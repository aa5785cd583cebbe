use Rattle.std.proofs.Common.{rules, ◌≡◌}
use Rattle.std.specs.Process.{exit_status}
use Rattle.px_lines.specs.Statuses.{number_of}
use Rattle.px_top.proofs.RunLemmas.{words_answered, fault_answered}
use Rattle.px_top.proofs.program.run_given.Goals as goal

pub returns-in-Ok-clause-answers : goal.returns-in-Ok-clause-answers
returns-in-Ok-clause-answers g c =
    let f = g.F.Files in
    let i = g.I.Source in
    let k = g.K.Sink in
    let e = g.E.Sink in
    let a = c.args in
    let r = c.run-status in
    let number : exit_status c.from.result ≡ number_of r.result = search rules in
    (r.result, number, words_answered _ _ _ _ f.told f.count f.gives a.files.now r.new.files i.told i.count a.input.now r.new.input k.told k.count a.out.now r.new.out e.told e.count a.err.now r.new.err a.words c.in-Ok.words c.deref.result.now r.result c.in-Ok.is c.deref.ensures.value r.ensures.answers)

pub returns-in-Err-clause-answers : goal.returns-in-Err-clause-answers
returns-in-Err-clause-answers g c =
    let f = g.F.Files in
    let i = g.I.Source in
    let k = g.K.Sink in
    let e = g.E.Sink in
    let a = c.args in
    let t = c.tell_no_words in
    let number : exit_status c.from-in-Err.result ≡ number_of t.result = search rules in
    (t.result, number, fault_answered _ _ _ _ f.told f.count f.gives a.files.now i.told i.count a.input.now k.told k.count a.out.now e.told e.count a.err.now t.new.err a.words c.in-Err.fault t.result c.in-Err.is t.ensures.text t.ensures.memory)
