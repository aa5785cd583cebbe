use Rattle.std.proofs.Common.{◌∙◌, ◌<◌, arith, length}
use Rattle.px_terms.proofs.KindLemmas.{numbers-set, all_kept-set, same_length, answer_next}
use Rattle.px_terms.proofs.domain.some_refutes.Goals as goal

pub returns-in_err-here-clause-kinds : goal.returns-in_err-here-clause-kinds
returns-in_err-here-clause-kinds g c =
    let below : c.loop-i.i < length c.loop-i.domains.items = rw (same_length _ _ _ c.loop-i.invariant.kinds) (grind arith) in
    numbers-set _ _ _ c.index_mut.result.now _ below c.index_mut.ensures.value c.refuted_by.ensures.kind ∙ c.loop-i.invariant.kinds

pub returns-in_err-here-clause-held : goal.returns-in_err-here-clause-held
returns-in_err-here-clause-held g c cs all =
    let below : c.loop-i.i < length c.loop-i.domains.items = rw (same_length _ _ _ c.loop-i.invariant.kinds) (grind arith) in
    all_kept-set (λ b. (goal.Domain-dyn g (b.vtable, b.value)).holds b.value cs) _ _ c.index_mut.result.now _ below c.index_mut.ensures.value (c.refuted_by.ensures.held cs) (c.loop-i.invariant.held cs all)

pub loop-i-preserved : goal.loop-i-preserved
loop-i-preserved g c =
    let below : c.loop-i.i < length c.loop-i.domains.items = rw (same_length _ _ _ c.loop-i.invariant.kinds) (grind arith) in
    record {
      kinds = numbers-set _ _ _ c.index_mut.result.now _ below c.index_mut.ensures.value c.refuted_by.ensures.kind ∙ c.loop-i.invariant.kinds;
      held = λ cs all. all_kept-set (λ b. (goal.Domain-dyn g (b.vtable, b.value)).holds b.value cs) _ _ c.index_mut.result.now _ below c.index_mut.ensures.value (c.refuted_by.ensures.held cs) (c.loop-i.invariant.held cs all);
      answer = answer_next _ _ _ _ _ _ _ _ below c.index_mut.ensures.value c.loop-i.invariant.kinds c.loop-i.invariant.answer c.in_ok-here.ensures.answer;
    }
