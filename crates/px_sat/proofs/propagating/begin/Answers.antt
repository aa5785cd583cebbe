use Rattle.std.proofs.Common.{◌≡◌, [], Some, refl, ap, ◌∙◌, subst, arith, inl, inr}
use Rattle.std.specs.List.{slice_get}
use Rattle.std.proofs.lemmas.Bool.{cases_lt}
use Rattle.std.proofs.lemmas.Option.{slice_get-get_or}
use Rattle.std.proofs.lemmas.Result.{IfOk-weaker, on_ok_weaker}
use Rattle.px_sat.specs.Searches.{same}
use Rattle.px_sat.proofs.ForceLemmas.{extends_both, extends_true, forces_more}
use Rattle.px_sat.proofs.propagating.begin.Goals as goal

pub loop-at-init : goal.loop-at-init
loop-at-init c = record {
  extends = same c.requires;
  within = λ i clause h. absurd (omega arith);
  filled = λ i clause h. absurd (omega arith);
}

pub returns-then-branch-clause-extends : goal.returns-then-branch-clause-extends
returns-then-branch-clause-extends c = extends_both c.loop-at.invariant.extends c.in_ok-look.ensures.extends

pub loop-at-preserved : goal.loop-at-preserved
loop-at-preserved c = record {
  extends = extends_both c.loop-at.invariant.extends c.in_ok-look.ensures.extends;
  within = λ i clause h s. elim (cases_lt i c.loop-at.at) [
    | inl l ↦ forces_more clause [] c.loop-at.trail [] c.look.new.trail (λ l t. t) (extends_true c.in_ok-look.ensures.extends) (c.loop-at.invariant.within i clause l s)
    | inr l ↦ forces_more clause c.loop-at.trail c.look.new.trail [] c.look.new.trail (λ l t. extends_true c.loop-at.invariant.extends l t) (λ l t. t)
        (c.in_ok-look.ensures.within c.if-branch.false clause (subst (λ k. slice_get c.args.clauses.now k ≡ Some clause) (omega arith) s))
  ];
  filled = λ i clause h s. elim (cases_lt i c.loop-at.at) [
    | inl l ↦ c.loop-at.invariant.filled i clause l s
    | inr l ↦ c.in_ok-look.ensures.filled c.if-branch.false clause (subst (λ k. slice_get c.args.clauses.now k ≡ Some clause) (omega arith) s)
  ];
}

pub propagate-requires : goal.propagate-requires
propagate-requires c = λ clause (k, h, e).
    c.loop-at.invariant.within k clause (let t = c.loop-at-test.false in let n = c.len-at-end.ensures in omega arith) (slice_get-get_or c.args.clauses.now k clause h ∙ ap Some e)

pub returns-clause-extends : goal.returns-clause-extends
returns-clause-extends c = on_ok_weaker c.propagate.result (λ h. extends_both c.loop-at.invariant.extends h) c.propagate.ensures.extends

pub returns-clause-filled : goal.returns-clause-filled
returns-clause-filled c = IfOk-weaker c.propagate.result _ _ (λ _ _ _ (k, h, e).
    c.loop-at.invariant.filled k [] (let t = c.loop-at-test.false in let n = c.len-at-end.ensures in omega arith) (slice_get-get_or c.args.clauses.now k [] h ∙ ap Some e) refl) c.propagate.ensures.closed
