use Rattle.std.proofs.Common.{◌∙◌}
use Rattle.std.proofs.lemmas.Result.{IfOk-weaker}
use Rattle.px_explore.proofs.WeighLemmas.{refuted_as, not_refuted, is_refuted_too, placed_as}
use Rattle.px_explore.proofs.weigh.is_refuted.Goals as goal

pub returns-then-not-is_refuted-clause-answer : goal.returns-then-not-is_refuted-clause-answer
returns-then-not-is_refuted-clause-answer g c =
    not_refuted c.args.trail.now _ c.args.state.now _ c.args.job.now.kinds c.is_refuted.result c.is_refuted.ensures c.if-not-is_refuted.true c.requires.kinds c.requires.held

pub returns-then-are_placed-clause-answer : goal.returns-then-are_placed-clause-answer
returns-then-are_placed-clause-answer g c =
    is_refuted_too c.args.trail.now _ c.args.state.now _ c.args.job.now.kinds c.is_refuted.result c.is_refuted.ensures c.if-not-is_refuted.false c.requires.kinds
    (placed_as c.as_slice-vars.result.now c.args.state.now.vars c.as_slice.result.now c.args.state.now.atoms c.are_placed.result c.as_slice-vars.ensures c.as_slice.ensures c.are_placed.ensures c.if-are_placed.true)
    c.requires.held

pub returns-clause-answer : goal.returns-clause-answer
returns-clause-answer g c =
    IfOk-weaker c.refutes.result _ _ (λ b h. refuted_as b _ _ _ _ _ _ c.as_slice-vars.ensures (c.deref.ensures.value ∙ c.in_ok-conjuncts.ensures) c.requires.kinds h) c.refutes.ensures.answer
