use Rattle.std.proofs.Common.{get_or, refl, ◌∙◌}
use Rattle.std.proofs.lemmas.List.{take_all}
use Rattle.px_base.specs.declared.trace.ProcId.{ProcId}
use Rattle.px_jobs.proofs.CalleeLemmas.{first_more, all_callees}
use Rattle.px_jobs.proofs.callees.callees_of.Goals as goal

pub loop-callee-preserved : goal.loop-callee-preserved
loop-callee-preserved c =
    let callees = c.callees-callee-items.result.now in
    let zero_is : ProcId = record { 0 = 0 } in
    first_more c.args.graph.now c.args.out.now c.args.parts.now c.args.caller.0 callees c.loop-callee.callee-index zero_is c.loop-callee.callees c.push.new.self
    (get_or callees c.loop-callee.callee-index zero_is, c.in_ok-known.known) c.loop-callee-test.true refl (λ w plan ready. c.in_ok-known.ensures w plan ready) c.in_ok-push.ensures.added c.loop-callee.invariant

pub returns : goal.returns
returns c = λ w plan ready.
    let callees = c.callees-callee-items.result.now in
    all_callees w c.args.graph.now c.args.out.now c.args.parts.now c.args.caller.0 callees c.loop-callee.callees c.requires.caller c.callees-callee-items.ensures
    (c.loop-callee.invariant.numbers ∙ take_all c.loop-callee.callee-index callees c.loop-callee-test.false) plan (c.loop-callee.invariant.each w plan ready)
