use Rattle.std.proofs.Common.{sym, subst, ◌∙◌}
use Rattle.px_sat.specs.declared.propagating.Left.{Left}
use Rattle.px_sat.specs.Searches.{IsLeft}
use Rattle.px_sat.proofs.LeftLemmas.{left_false, left_first, left_again, left_second, left_more}
use Rattle.px_sat.proofs.propagating.left_with.Goals as goal

pub returns-then-is_false : goal.returns-then-is_false
returns-then-is_false c = λ clause h. left_false c.args.trail.now clause c.args.literal c.args.left h (c.is_false.ensures.0 c.if-is_false.true)

pub returns-in-Nothing : goal.returns-in-Nothing
returns-in-Nothing c = λ clause h.
    left_first c.args.trail.now clause c.args.literal (subst (λ (l : Left). IsLeft c.args.trail.now clause l) c.in-Nothing.is h)
    (λ t. let e = sym (c.is_false.ensures.1 t) ∙ c.if-is_false.false in cc)

pub returns-then-is_same : goal.returns-then-is_same
returns-then-is_same c = λ clause h.
    left_again c.args.trail.now clause c.args.literal c.in-One.other (c.is_same.ensures.0 c.if-is_same.true) (subst (λ (l : Left). IsLeft c.args.trail.now clause l) c.in-One.is h)

pub returns-else-is_same : goal.returns-else-is_same
returns-else-is_same c = λ clause h.
    left_second c.args.trail.now clause c.args.literal c.in-One.other (λ e. let f = sym (c.is_same.ensures.1 e) ∙ c.if-is_same.false in cc)
    (λ t. let e = sym (c.is_false.ensures.1 t) ∙ c.if-is_false.false in cc)
    (subst (λ (l : Left). IsLeft c.args.trail.now clause l) c.in-One.is h)

pub returns-in-More : goal.returns-in-More
returns-in-More c = λ clause h. left_more c.args.trail.now clause c.args.literal (subst (λ (l : Left). IsLeft c.args.trail.now clause l) c.in-More.is h)
