use Rattle.std.proofs.Common.{◌≡◌, List, Some, refl, ap, ◌∙◌, arith}
use Rattle.std.specs.List.{slice_get}
use Rattle.std.proofs.lemmas.Option.{slice_get-get_or}
use Rattle.px_cnf.specs.declared.literal.Literal.{Literal}
use Rattle.px_sat.specs.Steps.{ForcesWithin}
use Rattle.px_sat.specs.Searches.{same}
use Rattle.px_sat.proofs.ListLemmas.{each_more, each_at_end}
use Rattle.px_sat.proofs.ForceLemmas.{extends_both, extends_true, forces_more}
use Rattle.px_sat.proofs.propagating.spread.Goals as goal

pub loop-at-init : goal.loop-at-init
loop-at-init c = record {
  extends = same refl;
  within = λ i (k, h, e). absurd (omega arith);
}

pub returns-then-branch-clause-extends : goal.returns-then-branch-clause-extends
returns-then-branch-clause-extends c = extends_both c.loop-at.invariant.extends c.in_ok-look.ensures.extends

pub loop-at-preserved : goal.loop-at-preserved
loop-at-preserved c = record {
  extends = extends_both c.loop-at.invariant.extends c.in_ok-look.ensures.extends;
  within = each_more (λ i. (clause : List Literal) → slice_get c.args.clauses.now i ≡ Some clause → ForcesWithin clause c.args.trail.now c.look.new.trail) c.uses-at-items.result.now c.loop-at.at-index 0 (let t = c.loop-at-test.true in omega arith)
      (λ i m clause s. forces_more clause c.args.trail.now c.loop-at.trail c.args.trail.now c.look.new.trail (λ l t. t) (extends_true c.in_ok-look.ensures.extends) (c.loop-at.invariant.within i m clause s))
      (λ clause s. forces_more clause c.loop-at.trail c.look.new.trail c.args.trail.now c.look.new.trail (extends_true c.loop-at.invariant.extends) (λ l t. t) (c.in_ok-look.ensures.within c.if-branch.false clause s));
}

pub returns-clause-extends : goal.returns-clause-extends
returns-clause-extends c = c.loop-at.invariant.extends

pub returns-clause-within : goal.returns-clause-within
returns-clause-within c = λ _ clause m n.
    let (k, h, e) = m in
    let s = slice_get-get_or c.args.clauses.now k clause h ∙ ap Some e in
    each_at_end (λ i. (clause : List Literal) → slice_get c.args.clauses.now i ≡ Some clause → ForcesWithin clause c.args.trail.now c.loop-at.trail) c.uses-at-items.result.now c.loop-at.at-index (let t = c.loop-at-test.false in omega arith) c.loop-at.invariant.within k (c.uses-at-items.ensures k clause s n) clause s
