use Rattle.std.proofs.Common.{List, refl, sym, subst, ◌∙◌}
use Rattle.std.proofs.lemmas.Option.{same_Some}
use Rattle.px_cnf.specs.declared.literal.Literal.{Literal}
use Rattle.px_sat.specs.Steps.{ForcesWithin, forced}
use Rattle.px_sat.specs.Searches.{same}
use Rattle.px_sat.proofs.ForceLemmas.{true_last, left_new, look_forces, look_within, look_more}
use Rattle.px_sat.proofs.propagating.look.Goals as goal

pub returns-in_default-clause-extends : goal.returns-in_default-clause-extends
returns-in_default-clause-extends c = same refl

pub returns-in-Nothing-clause-extends : goal.returns-in-Nothing-clause-extends
returns-in-Nothing-clause-extends c = same refl

pub returns-in_ok-push-in-One-clause-extends : goal.returns-in_ok-push-in-One-clause-extends
returns-in_ok-push-in-One-clause-extends c =
    let s = sym c.in-Some.ensures in
    rw c.in_ok-push-in-One.ensures
    (look_forces c.args.clauses.now c.args.at c.in-Some.clause.now c.args.trail.now s c.in-One.literal c.in-One.ensures
    (left_new c.args.clauses.now c.args.at c.in-Some.clause.now c.args.trail.now s c.in-One.literal c.in-One.ensures (λ t. let e = sym (c.is_true.ensures.1 t) ∙ c.if-not-is_true.true in cc)))

pub returns-in_ok-push-in-One-clause-within : goal.returns-in_ok-push-in-One-clause-within
returns-in_ok-push-in-One-clause-within c = λ _ clause s.
    subst (λ (k : List Literal). ForcesWithin k c.args.trail.now c.push.new.self) (same_Some _ _ (c.in-Some.ensures ∙ s))
    (look_within c.args.clauses.now c.args.at c.in-Some.clause.now c.args.trail.now (sym c.in-Some.ensures) c.in-One.literal c.push.new.self c.in-One.ensures
    (rw c.in_ok-push-in-One.ensures (true_last c.args.trail.now (forced c.in-One.literal c.args.at))))

pub returns-else-not-is_true-clause-extends : goal.returns-else-not-is_true-clause-extends
returns-else-not-is_true-clause-extends c = same refl

pub returns-else-not-is_true-clause-within : goal.returns-else-not-is_true-clause-within
returns-else-not-is_true-clause-within c = λ _ clause s.
    subst (λ (k : List Literal). ForcesWithin k c.args.trail.now c.args.trail.now) (same_Some _ _ (c.in-Some.ensures ∙ s))
    (look_within c.args.clauses.now c.args.at c.in-Some.clause.now c.args.trail.now (sym c.in-Some.ensures) c.in-One.literal c.args.trail.now c.in-One.ensures (c.is_true.ensures.0 c.if-not-is_true.false))

pub returns-in-More-clause-extends : goal.returns-in-More-clause-extends
returns-in-More-clause-extends c = same refl

pub returns-in-More-clause-within : goal.returns-in-More-clause-within
returns-in-More-clause-within c = λ _ clause s.
    subst (λ (k : List Literal). ForcesWithin k c.args.trail.now c.args.trail.now) (same_Some _ _ (c.in-Some.ensures ∙ s))
    (look_more c.args.clauses.now c.args.at c.in-Some.clause.now c.args.trail.now (sym c.in-Some.ensures) c.in-More.ensures)
