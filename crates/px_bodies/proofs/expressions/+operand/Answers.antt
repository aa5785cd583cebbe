use Rattle.std.proofs.Common.{◌≡◌, ◌∙◌, refl, ap, subst, map, Some, arith, rules}
use Rattle.px_syntax.specs.ExpressionTree.{expression_tree, expressions_of, link_tree, chained, members}
use Rattle.px_syntax.specs.TypedViews.{typed_expression, typed_argument}
use Rattle.px_syntax.proofs.ExpressionEquations.{tree-Binary, tree-Member, tree-Call}
use Rattle.px_bodies.specs.Environment.{environment_of}
use Rattle.px_bodies.specs.Types.{given}
use Rattle.px_bodies.specs.Expressions.{typed, typed_arguments, typed_binary, typed_call, callable, site_of}
use Rattle.px_bodies.specs.Operands.{operand_seen, wanted_of}
use Rattle.px_bodies.specs.Outcomes.{Refuses, Yields}
use Rattle.px_bodies.proofs.ArgumentLemmas.{arguments-step, arguments-missing, call-typed}
use Rattle.px_bodies.proofs.ChainLemmas.{fails-along, by-tree, by-part, links-are, links-untyped, links-refused, links-end, chain-untyped, path-untyped, binary-untyped, binary-typed, member-untyped}
use Rattle.px_bodies.proofs.expressions.+operand.Goals as goal

pub arguments-loop-i-preserved : goal.arguments-loop-i-preserved
arguments-loop-i-preserved t c =
    arguments-step (environment_of c.args.environment.now) c.args.locals.now.visible c.args.given.now c.loop-i.i c.index-given-i.result (wanted_of c.args.wanted)
    (operand_seen c.in_ok-argument.argument) (typed_expression c.in_ok-as_argument.field-0) (map typed_argument c.loop-i.all.items) (map typed_argument c.put.new.all.items) _
    c.loop-i-test.true c.index-given-i.is c.in_ok-argument.ensures c.in_ok-as_argument.ensures c.in_ok-put.ensures c.loop-i.invariant

pub arguments-returns-in-Some : goal.arguments-returns-in-Some
arguments-returns-in-Some t c =
    arguments-missing (environment_of c.args.environment.now) c.args.locals.now.visible c.args.given.now c.loop-i.i c.args.wanted c.in-Some.parameters
    (map typed_argument c.loop-i.all.items) _ (omega arith) c.in-Some.is (omega arith) c.loop-i.invariant

pub links-returns-in_err-right : goal.links-returns-in_err-right
links-returns-in_err-right t c e h s =
    let env = environment_of c.args.environment.now in
    let visible = c.args.locals.now.visible in
    let x = c.index-links-i.result in
    let fails : Refuses c.in_err-right.field-0.0 (typed env visible (chained e (map link_tree c.args.links.now))) =
    fails-along c.in_err-right.field-0.0 _ _
    (λ none. links-are env visible c.args.links.now e c.args.at (operand_seen c.args.first) h s
    ∙ links-untyped env visible c.args.links.now c.loop-i.i x (operand_seen c.loop-i.left) c.loop-i.at _ c.loop-i-test.true c.index-links-i.is c.loop-i.invariant none)
    c.in_err-right.ensures in
    search rules

pub links-returns-in_err-left : goal.links-returns-in_err-left
links-returns-in_err-left t c e h s =
    let env = environment_of c.args.environment.now in
    let visible = c.args.locals.now.visible in
    let x = c.index-links-i.result in
    let fails : Refuses c.in_err-left.field-0.0 (typed env visible (chained e (map link_tree c.args.links.now))) =
    fails-along c.in_err-left.field-0.0 (typed_binary x.operator x.site c.loop-i.at (site_of (expression_tree x.operand)) (operand_seen c.loop-i.left) (operand_seen c.in_ok-right.right)) _
    (λ none. links-are env visible c.args.links.now e c.args.at (operand_seen c.args.first) h s
    ∙ links-refused env visible c.args.links.now c.loop-i.i x (operand_seen c.loop-i.left) (operand_seen c.in_ok-right.right) c.loop-i.at _ c.loop-i-test.true c.index-links-i.is
    c.in_ok-right.ensures c.loop-i.invariant none)
    (subst (λ s. Refuses c.in_err-left.field-0.0 (typed_binary x.operator x.site c.loop-i.at s (operand_seen c.loop-i.left) (operand_seen c.in_ok-right.right))) c.site_of.ensures c.in_err-left.ensures) in
    search rules

pub links-returns : goal.links-returns
links-returns t c e h s =
    let env = environment_of c.args.environment.now in
    let visible = c.args.locals.now.visible in
    links-are env visible c.args.links.now e c.args.at (operand_seen c.args.first) h s ∙ c.loop-i.invariant
    ∙ links-end env visible c.args.links.now c.loop-i.i (operand_seen c.loop-i.left) c.loop-i.at (omega arith)

pub operand-returns-in_err-left-in-Binary : goal.operand-returns-in_err-left-in-Binary
operand-returns-in_err-left-in-Binary t c =
    let env = environment_of c.args.environment.now in
    let visible = c.args.locals.now.visible in
    let b = c.in-Binary in
    let r = c.in_err-left-in-Binary.field-0.0 in
    let first = expression_tree b.first.value in
    let left = chained first (map link_tree b.before.items) in
    let right = expression_tree b.right.value in
    let untyped : Refuses r (typed env visible first) = search rules in
    let whole : Refuses r (typed env visible (expression_tree c.args.expression.now)) =
    by-part env visible r _ c.args.expression.now _ _ (ap expression_tree b.is ∙ tree-Binary b.first b.before b.operator b.site b.right) refl
    (λ none. binary-untyped env visible b.operator b.site left right (chain-untyped env visible first (map link_tree b.before.items) none)) untyped in
    search rules

pub operand-returns-in_err-left-in-Binary-2 : goal.operand-returns-in_err-left-in-Binary-2
operand-returns-in_err-left-in-Binary-2 t c =
    let env = environment_of c.args.environment.now in
    let visible = c.args.locals.now.visible in
    let b = c.in-Binary in
    let r = c.in_err-left-in-Binary-2.field-0.0 in
    let first = expression_tree b.first.value in
    let left = chained first (map link_tree b.before.items) in
    let right = expression_tree b.right.value in
    let first_is : typed env visible first ≡ Some (operand_seen c.in_ok-left-in-Binary.left) = search rules in
    let site_is : site_of first ≡ c.site_of-in-Binary.result = search rules in
    let untyped : Refuses r (typed env visible left) =
    subst (λ ls. Refuses r (typed env visible (chained first (map link_tree ls)))) c.deref-in-Binary-5.ensures.value (c.in_err-left-in-Binary-2.ensures first first_is site_is) in
    let whole : Refuses r (typed env visible (expression_tree c.args.expression.now)) =
    by-part env visible r _ c.args.expression.now _ _ (ap expression_tree b.is ∙ tree-Binary b.first b.before b.operator b.site b.right) refl
    (binary-untyped env visible b.operator b.site left right) untyped in
    search rules

pub operand-returns-in_err-pointer-in-Member : goal.operand-returns-in_err-pointer-in-Member
operand-returns-in_err-pointer-in-Member t c =
    let env = environment_of c.args.environment.now in
    let visible = c.args.locals.now.visible in
    let m = c.in-Member in
    let r = c.in_err-pointer-in-Member.field-0.0 in
    let first = expression_tree m.pointer.value in
    let untyped : Refuses r (typed env visible first) = search rules in
    let whole : Refuses r (typed env visible (expression_tree c.args.expression.now)) =
    by-part env visible r _ c.args.expression.now _ _ (ap expression_tree m.is ∙ tree-Member m.site m.pointer m.before m.field) refl
    (λ none. member-untyped env visible (members first m.before.items) m.field m.site (path-untyped env visible first m.before.items none)) untyped in
    search rules

pub operand-returns-in_err-given-in-Call : goal.operand-returns-in_err-given-in-Call
operand-returns-in_err-given-in-Call t c =
    let env = environment_of c.args.environment.now in
    let visible = c.args.locals.now.visible in
    let k = c.in-Call in
    let w = wanted_of c.in_ok-wanted-in-Call.wanted in
    let r = c.in_err-given-in-Call.field-0.0 in
    let es = expressions_of (map expression_tree k.given.items) in
    let untyped : Refuses r (typed_arguments env visible w es) = search rules in
    let callee : callable env visible k.function ≡ Some w = search rules in
    let whole : Refuses r (typed env visible (expression_tree c.args.expression.now)) =
    by-part env visible r _ c.args.expression.now _ _ (ap expression_tree k.is ∙ tree-Call k.function k.site k.given) (call-typed env visible k.function k.site es w callee)
    (ap (λ o. given o (typed_call env k.function k.site))) untyped in
    search rules

pub operand-returns-in_ok-right-in-Binary : goal.operand-returns-in_ok-right-in-Binary
operand-returns-in_ok-right-in-Binary t c =
    let env = environment_of c.args.environment.now in
    let visible = c.args.locals.now.visible in
    let b = c.in-Binary in
    let first = expression_tree b.first.value in
    let left = chained first (map link_tree b.before.items) in
    let right = expression_tree b.right.value in
    let x = operand_seen c.in_ok-left-in-Binary-2.left in
    let y = operand_seen c.in_ok-right-in-Binary.right in
    let first_is : typed env visible first ≡ Some (operand_seen c.in_ok-left-in-Binary.left) = search rules in
    let site_is : site_of first ≡ c.site_of-in-Binary.result = search rules in
    let left_is : typed env visible left ≡ Some x =
    subst (λ ls. typed env visible (chained first (map link_tree ls)) ≡ Some x) c.deref-in-Binary-5.ensures.value (c.in_ok-left-in-Binary-2.ensures first first_is site_is) in
    let right_is : typed env visible right ≡ Some y = search rules in
    let gives : Yields operand_seen c.binary.result (typed_binary b.operator b.site (site_of left) (site_of right) x y) = search rules in
    by-tree env visible (Yields operand_seen c.binary.result) c.args.expression.now _ _ (ap expression_tree b.is ∙ tree-Binary b.first b.before b.operator b.site b.right)
    (binary-typed env visible b.operator b.site left right x y left_is right_is) gives

pub operand-returns-in_ok-given-in-Call : goal.operand-returns-in_ok-given-in-Call
operand-returns-in_ok-given-in-Call t c =
    let env = environment_of c.args.environment.now in
    let visible = c.args.locals.now.visible in
    let k = c.in-Call in
    let w = wanted_of c.in_ok-wanted-in-Call.wanted in
    let es = expressions_of (map expression_tree k.given.items) in
    let xs = map typed_argument c.in_ok-given-in-Call.given.items in
    let arguments_are : typed_arguments env visible w es ≡ Some xs = search rules in
    let callee : callable env visible k.function ≡ Some w = search rules in
    let gives : Yields operand_seen c.call.result (typed_call env k.function k.site xs) = search rules in
    by-tree env visible (Yields operand_seen c.call.result) c.args.expression.now _ _ (ap expression_tree k.is ∙ tree-Call k.function k.site k.given)
    (call-typed env visible k.function k.site es w callee ∙ ap (λ o. given o (typed_call env k.function k.site)) arguments_are) gives
