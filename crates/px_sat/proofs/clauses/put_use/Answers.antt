use Rattle.std.proofs.Common.{inl, inr, arith}
use Rattle.px_sat.proofs.UseLemmas.{use_padded, put_back, kept_back}
use Rattle.px_sat.proofs.clauses.put_use.Goals as goal

pub loop-alloc-preserved : goal.loop-alloc-preserved
loop-alloc-preserved c = λ k i h.
    rw (c.in_ok-push.ensures.items, c.new.ensures) (use_padded c.loop-alloc.uses.items k i (c.loop-alloc.invariant k i h))

pub returns-in_err-push-clause-keeps : goal.returns-in_err-push-clause-keeps
returns-in_err-push-clause-keeps c = λ k i h. rw c.in_err-push.ensures.items (c.loop-alloc.invariant k i h)

pub returns-in_err-push-2-clause-keeps : goal.returns-in_err-push-2-clause-keeps
returns-in_err-push-2-clause-keeps c = λ k i h.
    let l = c.len.ensures in let m = c.loop-alloc.uses.ok.0 in let n = c.loop-alloc-test.false in
    kept_back c.loop-alloc.uses.items c.args.code c.args.at c.index_mut.result.now c.push-2.new.self k i (omega arith) c.index_mut.ensures.value (inl c.in_err-push-2.ensures.refused) (c.loop-alloc.invariant k i h)

pub returns-clause-put : goal.returns-clause-put
returns-clause-put c =
    let l = c.len.ensures in let m = c.loop-alloc.uses.ok.0 in let n = c.loop-alloc-test.false in
    put_back c.loop-alloc.uses.items c.args.code c.args.at c.index_mut.result.now c.push-2.new.self (omega arith) c.index_mut.ensures.value c.in_ok-push-2.ensures.added

pub returns-clause-keeps : goal.returns-clause-keeps
returns-clause-keeps c = λ k i h.
    let l = c.len.ensures in let m = c.loop-alloc.uses.ok.0 in let n = c.loop-alloc-test.false in
    kept_back c.loop-alloc.uses.items c.args.code c.args.at c.index_mut.result.now c.push-2.new.self k i (omega arith) c.index_mut.ensures.value (inr c.in_ok-push-2.ensures.added) (c.loop-alloc.invariant k i h)
