use Rattle.std.proofs.Common.{List, refl, sym, subst, arith, ◌∙◌}
use Rattle.std.proofs.lemmas.List.{take_all}
use Rattle.px_sat.specs.declared.step.Step.{Step}
use Rattle.px_sat.specs.Steps.{IsClosedTo}
use Rattle.px_sat.specs.Searches.{same}
use Rattle.px_sat.proofs.ListLemmas.{none_of}
use Rattle.px_sat.proofs.ForceLemmas.{extends_both}
use Rattle.px_sat.proofs.PropagateLemmas.{closed_next}
use Rattle.px_sat.proofs.propagating.propagate.Goals as goal

pub loop-place-init : goal.loop-place-init
loop-place-init c = record { extends = same refl; closed = c.requires }

pub returns-then-is_some-clause-extends : goal.returns-then-is_some-clause-extends
returns-then-is_some-clause-extends c = extends_both c.loop-place.invariant.extends c.in_ok-found.ensures.extends

pub loop-place-preserved : goal.loop-place-preserved
loop-place-preserved c = record {
  extends = extends_both c.loop-place.invariant.extends c.in_ok-found.ensures.extends;
  closed = closed_next c.args.clauses.now c.loop-place.trail c.spread.new.trail c.loop-place.place c.get-step.result (let t = c.loop-place-test.true in let n = c.len.ensures in omega arith) c.get-step.ensures c.in_ok-found.ensures.extends c.loop-place.invariant.closed
      (λ clause m n. c.in_ok-found.ensures.within (none_of c.in_ok-found.found (sym c.is_some.ensures ∙ c.if-is_some.false)) clause m (rw c.negated.ensures n));
}

pub returns-clause-closed : goal.returns-clause-closed
returns-clause-closed c = λ _.
    subst (λ (ss : List Step). IsClosedTo c.args.clauses.now ss c.loop-place.trail) (take_all c.loop-place.place c.loop-place.trail (let t = c.loop-place-test.false in let n = c.len.ensures in omega arith)) c.loop-place.invariant.closed
