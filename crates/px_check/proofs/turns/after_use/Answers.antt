use Rattle.std.proofs.Common.{◌+◌, Some, None, subst, sym, ◌∙◌}
use Rattle.px_check.specs.Courses.{IsBehindUse}
use Rattle.px_check.proofs.TurnLemmas.{is_used, not_used_there, none_owed}
use Rattle.px_check.proofs.turns.after_use.Goals as goal

pub returns-in-None : goal.returns-in-None
returns-in-None c = subst (λ o. IsBehindUse c.args.steps.now c.args.place c.args.atom o (Some c.args.place)) (sym c.in-None.is) (none_owed c.args.steps.now c.args.place c.args.atom)

pub returns-then-is_used : goal.returns-then-is_used
returns-then-is_used c =
    subst (λ o. IsBehindUse c.args.steps.now c.args.place c.args.atom o (Some (c.args.place + 1))) (sym c.in-Some.is)
    (is_used c.args.steps.now c.args.place c.args.atom c.in-Some.rule (sym c.is_used.ensures ∙ c.if-is_used.true))

pub returns-else-is_used : goal.returns-else-is_used
returns-else-is_used c =
    subst (λ o. IsBehindUse c.args.steps.now c.args.place c.args.atom o None) (sym c.in-Some.is)
    (not_used_there c.args.steps.now c.args.place c.args.atom c.in-Some.rule (sym c.is_used.ensures ∙ c.if-is_used.false))
