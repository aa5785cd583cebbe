use Rattle.std.proofs.Common.{◌≡◌, List, [], ◌∷◌, ◌++◌, sym, ap, subst, ◌∙◌}
use Rattle.px_sat.specs.declared.step.Step.{Step}
use Rattle.px_sat.specs.Steps.{variables_of, AreDistinct, IsNew}
use Rattle.px_sat.proofs.StepLemmas.{variables_more, distinct_more}
use Rattle.px_sat.proofs.trail.Trail.push.Goals as goal

pub invariant_of-self-in_default : goal.invariant_of-self-in_default
invariant_of-self-in_default c =
    let steps : List Step = c.self.inside.steps.items in
    let e : c.push-2.new.self.items ≡ steps ++ c.args.step ∷ [] = c.in_default.ensures.items in (
      variables_more c.self.inside.variables c.push.new.self steps c.args.step c.self.invariant.0 c.in_ok-push.ensures.added
          ∙ sym (ap variables_of e),
      subst AreDistinct (sym e) (distinct_more steps c.args.step c.self.invariant.1 (subst (λ (ss : List Step). IsNew ss c.args.step.literal) (sym c.self.view_is) c.requires)),
    )
