use Rattle.std.proofs.Common.{◌≡◌, List, take, sym, ap, subst, ◌∙◌}
use Rattle.px_sat.specs.declared.step.Step.{Step}
use Rattle.px_sat.specs.Steps.{variables_of, AreDistinct}
use Rattle.px_sat.proofs.StepLemmas.{variables_fewer, distinct_fewer}
use Rattle.px_sat.proofs.trail.Trail.truncate.Goals as goal

pub invariant_of-self : goal.invariant_of-self
invariant_of-self c =
    let steps : List Step = c.self.inside.steps.items in
    let e : c.truncate-2.new.self.items ≡ take c.args.count steps = c.truncate-2.ensures.items in (
      variables_fewer c.self.inside.variables c.truncate.new.self steps c.args.count c.self.invariant.0 c.truncate.ensures ∙ sym (ap variables_of e),
      subst AreDistinct (sym e) (distinct_fewer steps c.args.count c.self.invariant.1),
    )
