use Rattle.std.proofs.Common.{◌≡◌, ◌≢◌, ◌∙◌, refl, sym, ap, map, length, None, codes, arith, inl, inr}
use Rattle.px_expressions.specs.Reading.{or_else}
use Rattle.px_real_expressions.specs.ExpressionTree.{binary, expressions_of}
use Rattle.px_real_reading.specs.Trees.{expression_tree, suffix_tree, link_tree, chained, suffixed, all_suffixed}
use Rattle.px_real_symbols.specs.Symbols.{held_in}
use Rattle.px_real_reading.proofs.TreeEquations.{tree-Parenthesised, tree-Postfix, tree-Prefixed, tree-Cast, tree-Binary, tree-Choice, tree-ChoiceOr, suffix-Index, suffix-Call}
use Rattle.px_real_values.specs.Operands.{unless_stopped, parts, pointer_parts}
use Rattle.px_real_values.specs.Environment.{spelled}
use Rattle.px_real_values.specs.Operators.{valued_binary, dotted, arrowed, stopped_at, step_text, prefixed, cast_as}
use Rattle.px_real_values.specs.Calls.{call_of}
use Rattle.px_real_values.specs.Values.{valued, indexed, is_zero, block_of_type, block_of}
use Rattle.px_real_values.specs.Views.{operand_seen, given_seen}
use Rattle.px_real_values.proofs.ArgumentLemmas.{given_of, given_more, given_end}
use Rattle.px_real_values.proofs.CallLemmas.{block_alone, no_block}
use Rattle.px_real_values.proofs.ChainLemmas.{along_begins, along_more, along_ends}
use Rattle.px_real_values.proofs.FallLemmas.{falls, operand_falls, suffixes_fall, last_falls, links_fall, parenthesised_less, prefixed_less, measure_less, cast_less, choice_less, choice_or_less, assign_less, first_less, before_less, last_less, left_less, links_less, right_less, suffix_falls, link_falls, item_falls, index_falls, arguments_fall}
use Rattle.px_real_values.proofs.OperandLemmas.{given_as}
use Rattle.px_real_values.proofs.values.+operand.Goals as goal

pub evaluate-returns-in_ok-left-in-Postfix : goal.evaluate-returns-in_ok-left-in-Postfix
evaluate-returns-in_ok-left-in-Postfix g t c =
    let env = g.E.Environment.sees c.args.environment.now in
    let all = g.E.Environment.tokens c.args.environment.now in
    let p = c.in-Postfix in
    let start : operand_seen c.in_ok-start-in-Postfix.start ≡ valued env (expression_tree all p.first.value) =
    c.in_ok-start-in-Postfix.ensures ∙ ap (λ z. valued env (expression_tree all z)) c.deref-in-Postfix.ensures in
    let left : operand_seen c.in_ok-left-in-Postfix.left ≡ valued env (all_suffixed (expression_tree all p.first.value) (map (suffix_tree all) p.before.items)) =
    c.in_ok-left-in-Postfix.ensures _ start ∙ ap (λ z. valued env (all_suffixed (expression_tree all p.first.value) (map (suffix_tree all) z))) c.deref-in-Postfix-2.ensures.value in
    given_as operand_seen c.suffix.result _ _ (ap (valued env) (sym (ap (expression_tree all) p.is ∙ tree-Postfix all p.first p.before p.last))) (c.suffix.ensures _ left)

pub evaluate-returns-in_ok-left-in-Binary : goal.evaluate-returns-in_ok-left-in-Binary
evaluate-returns-in_ok-left-in-Binary g t c =
    let env = g.E.Environment.sees c.args.environment.now in
    let all = g.E.Environment.tokens c.args.environment.now in
    let b = c.in-Binary in
    let start : operand_seen c.in_ok-start-in-Binary.start ≡ valued env (expression_tree all b.first.value) =
    c.in_ok-start-in-Binary.ensures ∙ ap (λ z. valued env (expression_tree all z)) c.deref-in-Binary.ensures in
    let left : operand_seen c.in_ok-left-in-Binary.left ≡ valued env (chained (expression_tree all b.first.value) (map (link_tree all) b.before.items)) =
    c.in_ok-left-in-Binary.ensures _ start ∙ ap (λ z. valued env (chained (expression_tree all b.first.value) (map (link_tree all) z))) c.deref-in-Binary-2.ensures.value in
    given_as operand_seen c.linked.result _ _
    (ap (λ z. unless_stopped z (λ x. valued_binary env b.operator b.site x (valued env (expression_tree all c.deref-in-Binary-3.result.now)))) left
    ∙ ap (λ z. unless_stopped (valued env (chained (expression_tree all b.first.value) (map (link_tree all) b.before.items))) (λ x. valued_binary env b.operator b.site x (valued env (expression_tree all z)))) c.deref-in-Binary-3.ensures
    ∙ ap (valued env) (sym (ap (expression_tree all) b.is ∙ tree-Binary all b.first b.before b.operator b.site b.right)))
    c.linked.ensures

pub suffixes-loop-i-init : goal.suffixes-loop-i-init
suffixes-loop-i-init g t c =
    along_begins (g.E.Environment.sees c.args.environment.now) (suffix_tree (g.E.Environment.tokens c.args.environment.now)) all_suffixed (operand_seen c.args.first) c.args.suffixes.now

pub links-loop-i-init : goal.links-loop-i-init
links-loop-i-init g t c =
    along_begins (g.E.Environment.sees c.args.environment.now) (link_tree (g.E.Environment.tokens c.args.environment.now)) chained (operand_seen c.args.first) c.args.links.now

pub suffixes-loop-i-preserved : goal.suffixes-loop-i-preserved
suffixes-loop-i-preserved g t c =
    along_more (g.E.Environment.sees c.args.environment.now) (suffix_tree (g.E.Environment.tokens c.args.environment.now)) all_suffixed suffixed (λ e v vs. refl)
    (operand_seen c.args.first) c.args.suffixes.now c.loop-i.i c.index-suffixes-i.result (operand_seen c.loop-i.left) (operand_seen c.in_ok-left.left) c.loop-i-test.true c.index-suffixes-i.is c.in_ok-left.ensures c.loop-i.invariant

pub suffixes-returns : goal.suffixes-returns
suffixes-returns g t c =
    along_ends (g.E.Environment.sees c.args.environment.now) (suffix_tree (g.E.Environment.tokens c.args.environment.now)) all_suffixed (λ e. refl)
    (operand_seen c.args.first) c.args.suffixes.now c.loop-i.i (operand_seen c.loop-i.left) (omega arith) c.loop-i.invariant

pub links-loop-i-preserved : goal.links-loop-i-preserved
links-loop-i-preserved g t c =
    let env = g.E.Environment.sees c.args.environment.now in
    let all = g.E.Environment.tokens c.args.environment.now in
    let x = c.index-links-i.result in
    along_more env (link_tree all) chained (λ e l. binary l.operator l.site e l.operand) (λ e v vs. refl)
    (operand_seen c.args.first) c.args.links.now c.loop-i.i x (operand_seen c.loop-i.left) (operand_seen c.in_ok-left.left) c.loop-i-test.true c.index-links-i.is
    (λ t h. c.in_ok-left.ensures ∙ ap (λ z. unless_stopped z (λ y. valued_binary env x.operator x.site y (valued env (expression_tree all x.operand)))) h) c.loop-i.invariant

pub links-returns : goal.links-returns
links-returns g t c =
    along_ends (g.E.Environment.sees c.args.environment.now) (link_tree (g.E.Environment.tokens c.args.environment.now)) chained (λ e. refl)
    (operand_seen c.args.first) c.args.links.now c.loop-i.i (operand_seen c.loop-i.left) (omega arith) c.loop-i.invariant

pub given-loop-i-preserved : goal.given-loop-i-preserved
given-loop-i-preserved g t c =
    let env = g.E.Environment.sees c.args.environment.now in
    let all = g.E.Environment.tokens c.args.environment.now in
    given_more env all c.args.arguments.now c.loop-i.i c.index-arguments-i.result (map given_seen c.loop-i.all.items) (map given_seen c.put_given.new.all.items) _ c.first_site-first.result (operand_seen c.in_ok-operand.operand)
    c.loop-i-test.true c.index-arguments-i.is (c.first_site-first.ensures all) c.in_ok-operand.ensures c.in_ok-put_given.ensures c.loop-i.invariant

pub given-returns : goal.given-returns
given-returns g t c =
    let env = g.E.Environment.sees c.args.environment.now in
    let all = g.E.Environment.tokens c.args.environment.now in
    given_end env all c.args.arguments.now c.loop-i.i (map given_seen c.loop-i.all.items) _ (omega arith) c.loop-i.invariant

pub block_of-returns-in_ok-known : goal.block_of-returns-in_ok-known
block_of-returns-in_ok-known g t c =
    let env = g.E.Environment.sees c.args.environment.now in
    let all = g.E.Environment.tokens c.args.environment.now in
    let xs = c.args.arguments.now in
    let x = c.index-arguments-0.result in
    let one : length xs ≡ 1 = omega arith in
    c.block_if.ensures ∙ ap (λ z. or_else z (block_of_type env) None) c.in_ok-known.ensures ∙ sym (block_alone env all xs x one c.index-arguments-0.is)

pub block_of-returns-else-count-eq1 : goal.block_of-returns-else-count-eq1
block_of-returns-else-count-eq1 g t c =
    let env = g.E.Environment.sees c.args.environment.now in
    let all = g.E.Environment.tokens c.args.environment.now in
    let xs = c.args.arguments.now in
    let others : length xs ≢ 1 = omega arith in
    sym (no_block env all xs others)

pub suffix-returns-in-Member : goal.suffix-returns-in-Member
suffix-returns-in-Member g t c = λ e h.
    let env = g.E.Environment.sees c.args.environment.now in
    let all = g.E.Environment.tokens c.args.environment.now in
    given_as operand_seen c.dotted.result _ _ (ap (dotted env c.in-Member.site c.in-Member.name) h ∙ sym (ap (λ z. valued env (suffixed e (suffix_tree all z))) c.in-Member.is)) c.dotted.ensures

pub suffix-returns-in-Step : goal.suffix-returns-in-Step
suffix-returns-in-Step g t c = λ e h.
    let env = g.E.Environment.sees c.args.environment.now in
    let all = g.E.Environment.tokens c.args.environment.now in
    given_as operand_seen c.stepped.result _ _ (ap (λ z. stopped_at env (step_text c.in-Step.step) c.in-Step.site (pointer_parts env z)) h ∙ sym (ap (λ z. valued env (suffixed e (suffix_tree all z))) c.in-Step.is)) c.stepped.ensures

pub suffix-returns-in-Index : goal.suffix-returns-in-Index
suffix-returns-in-Index g t c = λ e h.
    let env = g.E.Environment.sees c.args.environment.now in
    let all = g.E.Environment.tokens c.args.environment.now in
    let site = c.in-Index.site in
    given_as operand_seen c.element_at.result _ _
    (ap (λ z. unless_stopped z (indexed env (is_zero (expression_tree all c.deref.result.now)) site (parts env (valued env (expression_tree all c.deref.result.now))))) h
    ∙ ap (λ x. unless_stopped (valued env e) (indexed env (is_zero (expression_tree all x)) site (parts env (valued env (expression_tree all x))))) c.deref.ensures
    ∙ sym (ap (λ z. valued env (suffixed e z)) (ap (suffix_tree all) c.in-Index.is ∙ suffix-Index all site c.in-Index.index)))
    c.element_at.ensures

pub suffix-returns-in-Call : goal.suffix-returns-in-Call
suffix-returns-in-Call g t c = λ e h.
    let env = g.E.Environment.sees c.args.environment.now in
    let all = g.E.Environment.tokens c.args.environment.now in
    let site = c.in-Call.site in
    given_as operand_seen c.call.result _ _
    (ap (λ z. unless_stopped z (call_of env site (block_of env (expressions_of (map (expression_tree all) c.deref-in-Call.result.now))) (given_of env all c.deref-in-Call.result.now))) h
    ∙ ap (λ x. unless_stopped (valued env e) (call_of env site (block_of env (expressions_of (map (expression_tree all) x))) (given_of env all x))) c.deref-in-Call.ensures.value
    ∙ sym (ap (λ z. valued env (suffixed e z)) (ap (suffix_tree all) c.in-Call.is ∙ suffix-Call all site c.in-Call.arguments)))
    c.call.ensures

pub suffix-returns-in-PointerMember : goal.suffix-returns-in-PointerMember
suffix-returns-in-PointerMember g t c = λ e h.
    let env = g.E.Environment.sees c.args.environment.now in
    let all = g.E.Environment.tokens c.args.environment.now in
    given_as operand_seen c.pointed_member.result _ _ (ap (λ z. unless_stopped z (arrowed env c.in-PointerMember.site c.in-PointerMember.name)) h ∙ sym (ap (λ z. valued env (suffixed e (suffix_tree all z))) c.in-PointerMember.is)) c.pointed_member.ensures

-- ---- what one kind of expression is

pub evaluate-returns-in-Parenthesised : goal.evaluate-returns-in-Parenthesised
evaluate-returns-in-Parenthesised g t c =
    let env = g.E.Environment.sees c.args.environment.now in
    let all = g.E.Environment.tokens c.args.environment.now in
    let p = c.in-Parenthesised in
    given_as operand_seen c.evaluate.result _ _
    (ap (λ z. valued env (expression_tree all z)) c.deref.ensures ∙ ap (valued env) (sym (ap (expression_tree all) p.is ∙ tree-Parenthesised all p.site p.inner)))
    c.evaluate.ensures

pub evaluate-returns-in_ok-inner-in-Prefixed : goal.evaluate-returns-in_ok-inner-in-Prefixed
evaluate-returns-in_ok-inner-in-Prefixed g t c =
    let env = g.E.Environment.sees c.args.environment.now in
    let all = g.E.Environment.tokens c.args.environment.now in
    let p = c.in-Prefixed in
    let inner : operand_seen c.in_ok-inner-in-Prefixed.inner ≡ valued env (expression_tree all p.inner.value) =
    c.in_ok-inner-in-Prefixed.ensures ∙ ap (λ z. valued env (expression_tree all z)) c.deref-in-Prefixed.ensures in
    given_as operand_seen c.prefixed.result _ _
    (ap (prefixed env p.operator p.site) inner ∙ ap (valued env) (sym (ap (expression_tree all) p.is ∙ tree-Prefixed all p.operator p.site p.inner)))
    c.prefixed.ensures

pub evaluate-returns-in_ok-inner-in-Cast : goal.evaluate-returns-in_ok-inner-in-Cast
evaluate-returns-in_ok-inner-in-Cast g t c =
    let env = g.E.Environment.sees c.args.environment.now in
    let all = g.E.Environment.tokens c.args.environment.now in
    let p = c.in-Cast in
    let inner : operand_seen c.in_ok-inner-in-Cast.inner ≡ valued env (expression_tree all p.inner.value) =
    c.in_ok-inner-in-Cast.ensures ∙ ap (λ z. valued env (expression_tree all z)) c.deref-in-Cast.ensures in
    given_as operand_seen c.cast.result _ _
    (ap (λ z. unless_stopped z (cast_as env (spelled env (held_in all p.type_name)) p.site)) inner
    ∙ ap (valued env) (sym (ap (expression_tree all) p.is ∙ tree-Cast all p.site p.type_name p.inner)))
    c.cast.ensures

pub evaluate-returns-in_ok-condition-in-Choice : goal.evaluate-returns-in_ok-condition-in-Choice
evaluate-returns-in_ok-condition-in-Choice g t c =
    let env = g.E.Environment.sees c.args.environment.now in
    let all = g.E.Environment.tokens c.args.environment.now in
    let p = c.in-Choice in
    let condition : operand_seen c.in_ok-condition-in-Choice.condition ≡ valued env (expression_tree all p.condition.value) =
    c.in_ok-condition-in-Choice.ensures ∙ ap (λ z. valued env (expression_tree all z)) c.deref-in-Choice.ensures in
    let stops = ap (λ z. unless_stopped z (λ x. stopped_at env (codes "?") p.site (parts env x))) condition in
    elim p.is [
      | inl (chosen, otherwise, e) ↦ given_as operand_seen c.chosen.result _ _ (stops ∙ ap (valued env) (sym (ap (expression_tree all) e ∙ tree-Choice all p.site p.condition chosen otherwise))) c.chosen.ensures
      | inr (otherwise, e) ↦ given_as operand_seen c.chosen.result _ _ (stops ∙ ap (valued env) (sym (ap (expression_tree all) e ∙ tree-ChoiceOr all p.site p.condition otherwise))) c.chosen.ensures
    ]

-- ---- what stands in an expression is smaller

pub evaluate-evaluate-requires : goal.evaluate-evaluate-requires
evaluate-evaluate-requires g t c κs within =
    let all = g.E.Environment.tokens c.args.environment.now in
    (falls all t c.args.expression.now _ c.deref.result.now _ c.decreases c.in-Parenthesised.is c.deref.ensures (parenthesised_less all c.in-Parenthesised.site c.in-Parenthesised.inner), within)

pub evaluate-evaluate-requires-in-Postfix : goal.evaluate-evaluate-requires-in-Postfix
evaluate-evaluate-requires-in-Postfix g t c κs within =
    let all = g.E.Environment.tokens c.args.environment.now in
    (falls all t c.args.expression.now _ c.deref-in-Postfix.result.now _ c.decreases c.in-Postfix.is c.deref-in-Postfix.ensures (first_less all c.in-Postfix.first c.in-Postfix.before c.in-Postfix.last), within)

pub evaluate-suffixes-requires : goal.evaluate-suffixes-requires
evaluate-suffixes-requires g t c κs within =
    let all = g.E.Environment.tokens c.args.environment.now in
    (suffixes_fall all t c.args.expression.now _ c.deref-in-Postfix-2.result.now _ c.decreases c.in-Postfix.is c.deref-in-Postfix-2.ensures.value (before_less all c.in-Postfix.first c.in-Postfix.before c.in-Postfix.last), within)

pub evaluate-suffix-requires : goal.evaluate-suffix-requires
evaluate-suffix-requires g t c κs within =
    let all = g.E.Environment.tokens c.args.environment.now in
    (last_falls all t c.args.expression.now _ c.in-Postfix.last c.decreases c.in-Postfix.is (last_less all c.in-Postfix.first c.in-Postfix.before c.in-Postfix.last), within)

pub evaluate-evaluate-requires-in-Prefixed : goal.evaluate-evaluate-requires-in-Prefixed
evaluate-evaluate-requires-in-Prefixed g t c κs within =
    let all = g.E.Environment.tokens c.args.environment.now in
    (falls all t c.args.expression.now _ c.deref-in-Prefixed.result.now _ c.decreases c.in-Prefixed.is c.deref-in-Prefixed.ensures (prefixed_less all c.in-Prefixed.operator c.in-Prefixed.site c.in-Prefixed.inner), within)

pub evaluate-evaluate-requires-in-Cast : goal.evaluate-evaluate-requires-in-Cast
evaluate-evaluate-requires-in-Cast g t c κs within =
    let all = g.E.Environment.tokens c.args.environment.now in
    (falls all t c.args.expression.now _ c.deref-in-Cast.result.now _ c.decreases c.in-Cast.is c.deref-in-Cast.ensures (cast_less all c.in-Cast.site c.in-Cast.type_name c.in-Cast.inner), within)

pub evaluate-evaluate-requires-in-Binary : goal.evaluate-evaluate-requires-in-Binary
evaluate-evaluate-requires-in-Binary g t c κs within =
    let all = g.E.Environment.tokens c.args.environment.now in
    (falls all t c.args.expression.now _ c.deref-in-Binary.result.now _ c.decreases c.in-Binary.is c.deref-in-Binary.ensures (left_less all c.in-Binary.first c.in-Binary.before c.in-Binary.operator c.in-Binary.site c.in-Binary.right), within)

pub evaluate-links-requires : goal.evaluate-links-requires
evaluate-links-requires g t c κs within =
    let all = g.E.Environment.tokens c.args.environment.now in
    (links_fall all t c.args.expression.now _ c.deref-in-Binary-2.result.now _ c.decreases c.in-Binary.is c.deref-in-Binary-2.ensures.value (links_less all c.in-Binary.first c.in-Binary.before c.in-Binary.operator c.in-Binary.site c.in-Binary.right), within)

pub evaluate-linked-requires : goal.evaluate-linked-requires
evaluate-linked-requires g t c κs within =
    let all = g.E.Environment.tokens c.args.environment.now in
    (operand_falls all t c.args.expression.now _ c.deref-in-Binary-3.result.now _ c.decreases c.in-Binary.is c.deref-in-Binary-3.ensures (right_less all c.in-Binary.first c.in-Binary.before c.in-Binary.operator c.in-Binary.site c.in-Binary.right), within)

pub evaluate-evaluate-requires-in-Choice : goal.evaluate-evaluate-requires-in-Choice
evaluate-evaluate-requires-in-Choice g t c κs within =
    let all = g.E.Environment.tokens c.args.environment.now in
    let p = c.in-Choice in (
      elim p.is [
        | inl (chosen, otherwise, e) ↦ falls all t c.args.expression.now _ c.deref-in-Choice.result.now _ c.decreases e c.deref-in-Choice.ensures (choice_less all p.site p.condition chosen otherwise)
        | inr (otherwise, e) ↦ falls all t c.args.expression.now _ c.deref-in-Choice.result.now _ c.decreases e c.deref-in-Choice.ensures (choice_or_less all p.site p.condition otherwise)
      ],
      within,
    )

pub evaluate-evaluate-requires-in-Assign : goal.evaluate-evaluate-requires-in-Assign
evaluate-evaluate-requires-in-Assign g t c κs within =
    let all = g.E.Environment.tokens c.args.environment.now in
    (falls all t c.args.expression.now _ c.deref-in-Assign.result.now _ c.decreases c.in-Assign.is c.deref-in-Assign.ensures (assign_less all c.in-Assign.operator c.in-Assign.site c.in-Assign.left c.in-Assign.right), within)

pub suffixes-suffix-requires : goal.suffixes-suffix-requires
suffixes-suffix-requires g t c κs within =
    let all = g.E.Environment.tokens c.args.environment.now in
    (suffix_falls all t c.loop-i.i c.args.suffixes.now c.index-suffixes-i.result c.decreases c.loop-i-test.true c.index-suffixes-i.is, within)

pub suffix-element_at-requires : goal.suffix-element_at-requires
suffix-element_at-requires g t c κs within =
    let all = g.E.Environment.tokens c.args.environment.now in
    (index_falls all t c.args.suffix.now c.in-Index.site c.in-Index.index c.deref.result.now c.decreases c.in-Index.is c.deref.ensures, within)

pub suffix-call-requires : goal.suffix-call-requires
suffix-call-requires g t c κs within =
    let all = g.E.Environment.tokens c.args.environment.now in
    (arguments_fall all t c.args.suffix.now c.in-Call.site c.in-Call.arguments c.deref-in-Call.result.now c.decreases c.in-Call.is c.deref-in-Call.ensures.value, within)

pub element_at-evaluate-requires : goal.element_at-evaluate-requires
element_at-evaluate-requires g t c κs within =
    let all = g.E.Environment.tokens c.args.environment.now in
    (omega (arith, c.decreases), within)

pub linked-evaluate-requires : goal.linked-evaluate-requires
linked-evaluate-requires g t c κs within =
    let all = g.E.Environment.tokens c.args.environment.now in
    (omega (arith, c.decreases), within)

pub given-evaluate-requires : goal.given-evaluate-requires
given-evaluate-requires g t c κs within =
    let all = g.E.Environment.tokens c.args.environment.now in
    (item_falls all t c.loop-i.i c.args.arguments.now c.index-arguments-i.result c.decreases c.loop-i-test.true c.index-arguments-i.is, within)

pub call-block_of-requires : goal.call-block_of-requires
call-block_of-requires g t c κs within =
    let all = g.E.Environment.tokens c.args.environment.now in
    (omega (arith, c.decreases), within)

pub call-given-requires : goal.call-given-requires
call-given-requires g t c κs within =
    let all = g.E.Environment.tokens c.args.environment.now in
    (omega (arith, c.decreases), within)

pub measured-measured-requires : goal.measured-measured-requires
measured-measured-requires g t c κs within =
    let all = g.E.Environment.tokens c.args.environment.now in
    (falls all t c.args.expression.now _ c.deref.result.now _ c.decreases c.in-Parenthesised.is c.deref.ensures (parenthesised_less all c.in-Parenthesised.site c.in-Parenthesised.inner), within)

pub measured-evaluate-requires : goal.measured-evaluate-requires
measured-evaluate-requires g t c κs within =
    let all = g.E.Environment.tokens c.args.environment.now in
    (falls all t c.args.expression.now _ c.deref-in-Size.result.now _ c.decreases c.in-Measure.is c.deref-in-Size.ensures (measure_less all c.in-Measure.measure c.in-Measure.site c.in-Measure.inner), within)

pub block_of-measured-requires : goal.block_of-measured-requires
block_of-measured-requires g t c κs within =
    let all = g.E.Environment.tokens c.args.environment.now in
    (item_falls all t 0 c.args.arguments.now c.index-arguments-0.result c.decreases (omega arith) c.index-arguments-0.is, within)

pub links-linked-requires : goal.links-linked-requires
links-linked-requires g t c κs within =
    let all = g.E.Environment.tokens c.args.environment.now in
    (link_falls all t c.loop-i.i c.args.links.now c.index-links-i.result c.decreases c.loop-i-test.true c.index-links-i.is, within)
