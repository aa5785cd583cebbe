use Rattle.std.proofs.Common.{arith}
use Rattle.px_base.specs.declared.trace.ProcId.{ProcId}
use Rattle.px_jobs.proofs.SameLemmas.{next_same, all_same, as_many, number_at, callee_at, known_at}
use Rattle.px_jobs.proofs.same.are_callees.Goals as goal

abbrev first : ProcId
first = record { 0 = 0 }

pub returns-then-called-callees : goal.returns-then-called-callees
returns-then-called-callees c = λ w plan ready.
    let differ = c.if-called-callees.true in (
      λ e. absurd (let n : ⊥ = cc in n),
      λ h. let many = as_many c.args.graph.now c.args.out.now c.args.parts.now c.args.caller.0 c.callees-called.result.now c.args.callees.now c.callees-called.ensures c.requires.caller w plan h in
          absurd (let n : ⊥ = omega (arith, many, differ) in n),
    )

pub returns-then-callee-expected : goal.returns-then-callee-expected
returns-then-callee-expected c = λ w plan ready.
    let differ = c.if-callee-expected.true in (
      λ e. absurd (let n : ⊥ = cc in n),
      λ h. let same = number_at c.args.graph.now c.args.out.now c.args.parts.now c.args.caller.0 c.callees-called.result.now c.args.callees.now c.callees-called.ensures c.requires.caller w plan h
          c.loop-place.place c.index-callees-place.result first c.loop-place-test.true c.index-callees-place.is in
          absurd (let n : ⊥ = omega (arith, same, differ) in n),
    )

pub returns-then-not-is_known : goal.returns-then-not-is_known
returns-then-not-is_known c = λ w plan ready.
    let differ = c.if-not-is_known.true in (
      λ e. absurd (let n : ⊥ = cc in n),
      λ h. let calls = callee_at c.args.graph.now c.args.out.now c.args.parts.now c.args.caller.0 c.callees-called.result.now c.args.callees.now c.callees-called.ensures c.requires.caller w plan h
          c.loop-place.place c.index-callees-place.result first c.loop-place-test.true c.index-callees-place.is in
          let known = known_at c.args.graph.now c.args.out.now c.args.parts.now c.args.caller.0 c.callees-called.result.now c.args.callees.now c.callees-called.ensures c.requires.caller w plan h
          c.loop-place.place c.index-callees-place.result first c.loop-place-test.true c.index-callees-place.is in
          let same = (c.is_known.ensures w plan calls).1 known in
          absurd (let n : ⊥ = cc in n),
    )

pub loop-place-preserved : goal.loop-place-preserved
loop-place-preserved c =
    next_same c.args.graph.now c.args.out.now c.args.parts.now c.args.caller.0 c.callees-called.result.now c.args.callees.now c.callees-called.ensures c.requires.caller
    c.loop-place.place c.index-callees-place.result first c.loop-place-test.true (let many = c.if-called-callees.false in let l = c.loop-place-test.true in omega arith) c.index-callees-place.is c.if-callee-expected.false
    (λ w plan calls. (c.is_known.ensures w plan calls).0 c.if-not-is_known.false) c.loop-place.invariant

pub returns : goal.returns
returns c = λ w plan ready.
    let many = c.if-called-callees.false in
    let last = c.loop-place-test.false in (
      λ e. all_same c.args.graph.now c.args.out.now c.args.parts.now c.args.caller.0 c.callees-called.result.now c.args.callees.now c.callees-called.ensures c.requires.caller w c.loop-place.place
          (omega (arith, many, last)) (omega (arith, last)) c.loop-place.invariant plan ready,
      λ h. cc,
    )
