use Rattle.std.proofs.Common.{◌≡◌, false, sym, ◌∙◌, get_or, arith}
use Rattle.std.proofs.lemmas.List.{get_or_default}
use Rattle.px_sat.proofs.TraceLemmas.{marks_new, tracing_after, tracing_before}
use Rattle.px_sat.proofs.tracing.Trace.mark.Goals as goal

pub returns-in_ok-push-clause-tracing : goal.returns-in_ok-push-clause-tracing
returns-in_ok-push-clause-tracing c =
    let s = c.args.self.now in
    let u : get_or s.marked.items c.in-Some.place false ≡ false =
    get_or_default s.marked.items c.in-Some.place false c.index.result.now (let a = c.requires.tracing.all in let b = c.in-Some.ensures.some.0 in omega arith) ∙ sym c.index.ensures ∙ c.if-index.false in
    rw (c.in_ok-push.ensures.items, c.max-self.ensures)
    (tracing_before c.args.trail.now c.args.start s.marked.items s.parts.items s.low c.args.literal c.requires.tracing c.in-Some.place c.in-Some.ensures.some u c.if-place-start.true c.requires.falsified)

pub returns-else-place-start-clause-tracing : goal.returns-else-place-start-clause-tracing
returns-else-place-start-clause-tracing c =
    let s = c.args.self.now in
    tracing_after c.args.trail.now c.args.start s.marked.items s.parts.items s.low c.args.literal c.requires.tracing c.in-Some.place c.in-Some.ensures.some (let t = c.if-place-start.false in omega arith)

pub returns-else-place-start-clause-marks : goal.returns-else-place-start-clause-marks
returns-else-place-start-clause-marks c =
    let s = c.args.self.now in
    marks_new c.args.trail.now c.args.start s.marked.items s.parts.items s.low c.args.literal c.requires.tracing c.in-Some.place c.in-Some.ensures.some
