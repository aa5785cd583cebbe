use Rattle.std.proofs.Common.{subst, List, ◌-◌}
use Rattle.px_sat.specs.declared.step.Step.{Step}
use Rattle.px_sat.specs.Steps.{IsPlaceOf, NoneHas}
use Rattle.px_sat.proofs.StepLemmas.{place_from_end, none_from_end}
use Rattle.px_sat.proofs.trail.Trail.place_of.Goals as goal

pub returns-then-end-eq0-clause-none : goal.returns-then-end-eq0-clause-none
returns-then-end-eq0-clause-none c =
    subst (λ (steps : List Step). NoneHas steps c.args.variable) c.self.view_is
    (none_from_end c.self.inside.variables c.self.inside.steps.items c.args.variable c.end_of-end.result c.self.invariant.0 c.end_of-end.ensures c.if-end-eq0.true)

pub returns-else-end-eq0-clause-some : goal.returns-else-end-eq0-clause-some
returns-else-end-eq0-clause-some c =
    let n = c.end_of-end.result in
    subst (λ (steps : List Step). IsPlaceOf steps c.args.variable (n - 1)) c.self.view_is
    (place_from_end c.self.inside.variables c.self.inside.steps.items c.args.variable n c.self.invariant.0 c.end_of-end.ensures c.if-end-eq0.false)
