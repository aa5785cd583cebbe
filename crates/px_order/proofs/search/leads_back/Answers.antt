use Rattle.std.proofs.Common.{◌≤◌, subst, sym, ◌∙◌, eqb-true, eq-eqb, arith}
use Rattle.px_order.specs.declared.search.Mark.TheVariants.{AtLeast}
use Rattle.px_order.specs.Searches.{mark_at, strength, carried, Raises}
use Rattle.px_order.proofs.Following.{warranted_begun, strength_begun}
use Rattle.px_order.proofs.Solving.{answered, unanswered}
use Rattle.px_order.proofs.search.leads_back.Goals as goal

pub returns-clause-yes : goal.returns-clause-yes
returns-clause-yes c = λ e.
    let new = c.args.new in
    let raised = subst (λ m. Raises new.second m c.args.marks.now c.raise.new.marks c.args.reached.now.items c.raise.new.reached.items) c.carried.ensures c.in_ok-raise.ensures.raised in
    answered c.args.comparisons.now new c.follow.new.marks c.strength.result c.strength.ensures
    (c.in_ok-follow.ensures.learns.warranted new (warranted_begun c.args.comparisons.now new c.args.marks.now c.raise.new.marks c.args.reached.now.items c.raise.new.reached.items c.requires.inside.1 c.requires.unmarked raised))
    (eqb-true c.strength.result 2 e)

pub returns-clause-no : goal.returns-clause-no
returns-clause-no c = λ e.
    let new = c.args.new in
    let raised = subst (λ m. Raises new.second m c.args.marks.now c.raise.new.marks c.args.reached.now.items c.raise.new.reached.items) c.carried.ensures c.in_ok-raise.ensures.raised in
    let begun : strength (carried AtLeast new.strict) ≤ strength (mark_at c.follow.new.marks new.second) =
    let p = strength_begun c.args.comparisons.now new c.args.marks.now c.raise.new.marks c.args.reached.now.items c.raise.new.reached.items c.requires.inside.1 c.requires.unmarked raised in
    let q = c.in_ok-follow.ensures.learns.grows new.second in
    omega arith in
    unanswered c.args.comparisons.now new c.follow.new.marks c.strength.result c.strength.ensures
    (c.in_ok-follow.ensures.learns.warranted new (warranted_begun c.args.comparisons.now new c.args.marks.now c.raise.new.marks c.args.reached.now.items c.raise.new.reached.items c.requires.inside.1 c.requires.unmarked raised))
    c.in_ok-follow.ensures.carried begun (λ two. let f = sym e ∙ eq-eqb c.strength.result 2 two in cc)
