use Rattle.std.proofs.Common.{◌∙◌, ◌++◌, ◌∷◌, [], ◌+◌, map, Some, Ok, Err, refl, sym, ap, subst, append-nil}
use Rattle.std.proofs.lemmas.Result.{err_from_is_err_and}
use Rattle.px_core.specs.CommandTree.{command_tree}
use Rattle.px_core.proofs.CommandEquations.{tree-If, tree-Stop}
use Rattle.px_syntax.specs.TypedTree.{no_expressions, an_expression}
use Rattle.px_syntax.specs.TypedViews.{typed_expression, typed_condition, arithmetic_link, relation_link, calculated, compared, cells, all_of, any_of}
use Rattle.px_lower.specs.Lowering.{copied, lowered_expression, lowered_passed, lowered_condition}
use Rattle.px_lower.specs.Chains.{Does}
use Rattle.px_lower.proofs.Chains.{calculated_step, calculated_stops, calculated_all, compared_step, compared_stops, compared_all, cells_step, cells_all, cells_fails, all_step, any_step, holds_all}
use Rattle.px_lower.proofs.Arms.{handed_on, out_of_memory, operand, next, slot, after, operands, behind, nothing, itself, of_tree, negate_fails, negate_returns, first_operand_fails, left_operand_fails, right_operand_fails, arithmetic_returns, condition_fails, truth_returns, pointer_fails, cell_returns, passed_pointer_fails, passed_cell_returns, arguments_fail, call_returns, passed_arguments_fail, passed_call_returns, parts_fail, stop_returns, argument_handed_on, argument_without_memory, value_fails, value_returns, parts_done, plain_seen, passed_plain_fails, passed_plain_returns}
use Rattle.px_lower.proofs.ConditionArms.{first_operand_fails as compare_first_fails, left_operand_fails as compare_left_fails, right_operand_fails as compare_right_fails, compare_returns, word_fails, word_compared, pointer_fails as pointer_test_fails, pointer_compared, opposite_fails, opposite_returns, first_and_fails, left_and_fails, and_returns, first_or_fails, left_or_fails, or_returns, and_puts, or_puts, outcome_fails, outcome_returns, passed_all, passed_more, passed_fails, passed_end, all_arguments, arguments_begin, argument_more, argument_fails, arguments_end}
use Rattle.px_lower.proofs.expressions.+lower.Goals as goal

pub expression-returns-in-Null : goal.expression-returns-in-Null
expression-returns-in-Null t c =
    of_tree c.args.e.now _ c.args.next (map command_tree c.args.out.now.items) (map command_tree c.args.out.now.items) (Ok c.new-in-Null.result) c.in-Null.is (sym (append-nil (map command_tree c.args.out.now.items)), ap Some (sym c.new-in-Null.ensures.operand), sym c.new-in-Null.ensures.next)

pub expression-returns-in_err-local_value-in-Local : goal.expression-returns-in_err-local_value-in-Local
expression-returns-in_err-local_value-in-Local t c =
    out_of_memory operand next (lowered_expression (typed_expression c.args.e.now) c.args.next) (map command_tree c.args.out.now.items) _ c.from_residual.result (err_from_is_err_and c.from_residual.result c.from_residual.ensures.1)

pub expression-returns-in_ok-local_value-in-Local : goal.expression-returns-in_ok-local_value-in-Local
expression-returns-in_ok-local_value-in-Local t c =
    of_tree c.args.e.now _ c.args.next (map command_tree c.args.out.now.items) _ (Ok c.in_ok-local_value-in-Local.field-0) c.in-Local.is (c.in_ok-local_value-in-Local.ensures.commands, ap Some (sym c.in_ok-local_value-in-Local.ensures.operand), sym c.in_ok-local_value-in-Local.ensures.next)

pub expression-returns-in_err-allocate-in-Allocate : goal.expression-returns-in_err-allocate-in-Allocate
expression-returns-in_err-allocate-in-Allocate t c =
    out_of_memory operand next (lowered_expression (typed_expression c.args.e.now) c.args.next) (map command_tree c.args.out.now.items) _ c.from_residual-in_err-allocate-in-Allocate.result (err_from_is_err_and c.from_residual-in_err-allocate-in-Allocate.result c.from_residual-in_err-allocate-in-Allocate.ensures.1)

pub expression-returns-in_ok-allocate-in-Allocate : goal.expression-returns-in_ok-allocate-in-Allocate
expression-returns-in_ok-allocate-in-Allocate t c =
    of_tree c.args.e.now _ c.args.next (map command_tree c.args.out.now.items) _ (Ok c.in_ok-allocate-in-Allocate.field-0) c.in-Allocate.is (c.in_ok-allocate-in-Allocate.ensures.commands, ap Some (sym c.in_ok-allocate-in-Allocate.ensures.operand), sym c.in_ok-allocate-in-Allocate.ensures.next)

pub expression-returns-in_err-get_char-in-GetChar : goal.expression-returns-in_err-get_char-in-GetChar
expression-returns-in_err-get_char-in-GetChar t c =
    out_of_memory operand next (lowered_expression (typed_expression c.args.e.now) c.args.next) (map command_tree c.args.out.now.items) _ c.from_residual-in_err-get_char-in-GetChar.result (err_from_is_err_and c.from_residual-in_err-get_char-in-GetChar.result c.from_residual-in_err-get_char-in-GetChar.ensures.1)

pub expression-returns-in_ok-get_char-in-GetChar : goal.expression-returns-in_ok-get_char-in-GetChar
expression-returns-in_ok-get_char-in-GetChar t c =
    of_tree c.args.e.now _ c.args.next (map command_tree c.args.out.now.items) _ (Ok c.in_ok-get_char-in-GetChar.field-0) c.in-GetChar.is (c.in_ok-get_char-in-GetChar.ensures.commands, ap Some (sym c.in_ok-get_char-in-GetChar.ensures.operand), sym c.in_ok-get_char-in-GetChar.ensures.next)

pub expression-returns-in_err-x-in-Negate : goal.expression-returns-in_err-x-in-Negate
expression-returns-in_err-x-in-Negate t c =
    negate_fails c.args.e.now c.deref.result.now c.in-Negate.operand c.in-Negate.is c.deref.ensures c.args.next (map command_tree c.args.out.now.items) _ c.in_err-x-in-Negate.field-0.0 c.from_residual-in_err-x-in-Negate.result (err_from_is_err_and c.from_residual-in_err-x-in-Negate.result c.from_residual-in_err-x-in-Negate.ensures.1) c.in_err-x-in-Negate.ensures

pub expression-returns-in_err-negate-in-Negate : goal.expression-returns-in_err-negate-in-Negate
expression-returns-in_err-negate-in-Negate t c =
    out_of_memory operand next (lowered_expression (typed_expression c.args.e.now) c.args.next) (map command_tree c.args.out.now.items) _ c.from_residual-in_err-negate-in-Negate.result (err_from_is_err_and c.from_residual-in_err-negate-in-Negate.result c.from_residual-in_err-negate-in-Negate.ensures.1)

pub expression-returns-in_ok-negate-in-Negate : goal.expression-returns-in_ok-negate-in-Negate
expression-returns-in_ok-negate-in-Negate t c =
    negate_returns c.args.e.now c.deref.result.now c.in-Negate.operand c.in-Negate.is c.deref.ensures c.args.next (map command_tree c.args.out.now.items) _ c.in_ok-x-in-Negate.x c.in_ok-negate-in-Negate.field-0 _ c.in_ok-x-in-Negate.ensures c.in_ok-negate-in-Negate.ensures.commands c.in_ok-negate-in-Negate.ensures.operand c.in_ok-negate-in-Negate.ensures.next

pub expression-returns-in_err-start-in-Arithmetic : goal.expression-returns-in_err-start-in-Arithmetic
expression-returns-in_err-start-in-Arithmetic t c =
    first_operand_fails c.args.e.now c.deref-in-Arithmetic.result.now c.in-Arithmetic.right.value c.in-Arithmetic.before.items c.in-Arithmetic.first c.in-Arithmetic.before c.in-Arithmetic.operator c.in-Arithmetic.right c.in-Arithmetic.is c.deref-in-Arithmetic.ensures refl refl c.args.next (map command_tree c.args.out.now.items) _ c.in_err-start-in-Arithmetic.field-0.0 c.from_residual-in_err-start-in-Arithmetic.result (err_from_is_err_and c.from_residual-in_err-start-in-Arithmetic.result c.from_residual-in_err-start-in-Arithmetic.ensures.1) c.in_err-start-in-Arithmetic.ensures

pub expression-returns-in_err-left-in-Arithmetic : goal.expression-returns-in_err-left-in-Arithmetic
expression-returns-in_err-left-in-Arithmetic t c =
    left_operand_fails c.args.e.now c.deref-in-Arithmetic.result.now c.in-Arithmetic.right.value c.deref-in-Arithmetic-2.result.now c.in-Arithmetic.first c.in-Arithmetic.before c.in-Arithmetic.operator c.in-Arithmetic.right c.in-Arithmetic.is c.deref-in-Arithmetic.ensures c.deref-in-Arithmetic-2.ensures.value refl c.args.next (map command_tree c.args.out.now.items) c.in_ok-start-in-Arithmetic.start _ _ c.in_ok-start-in-Arithmetic.ensures c.in_err-left-in-Arithmetic.field-0.0 c.from_residual-in_err-left-in-Arithmetic.result (err_from_is_err_and c.from_residual-in_err-left-in-Arithmetic.result c.from_residual-in_err-left-in-Arithmetic.ensures.1) c.in_err-left-in-Arithmetic.ensures

pub expression-returns-in_err-last-in-Arithmetic : goal.expression-returns-in_err-last-in-Arithmetic
expression-returns-in_err-last-in-Arithmetic t c =
    right_operand_fails c.args.e.now c.deref-in-Arithmetic.result.now c.deref-in-Arithmetic-3.result.now c.deref-in-Arithmetic-2.result.now c.in-Arithmetic.first c.in-Arithmetic.before c.in-Arithmetic.operator c.in-Arithmetic.right c.in-Arithmetic.is c.deref-in-Arithmetic.ensures c.deref-in-Arithmetic-2.ensures.value c.deref-in-Arithmetic-3.ensures c.args.next (map command_tree c.args.out.now.items) c.in_ok-start-in-Arithmetic.start _ _ c.in_ok-start-in-Arithmetic.ensures c.in_ok-left-in-Arithmetic.left c.in_ok-left-in-Arithmetic.ensures _ c.in_err-last-in-Arithmetic.field-0.0 c.from_residual-in_err-last-in-Arithmetic.result (err_from_is_err_and c.from_residual-in_err-last-in-Arithmetic.result c.from_residual-in_err-last-in-Arithmetic.ensures.1) c.in_err-last-in-Arithmetic.ensures

pub expression-returns-in_err-calculate-in-Arithmetic : goal.expression-returns-in_err-calculate-in-Arithmetic
expression-returns-in_err-calculate-in-Arithmetic t c =
    out_of_memory operand next (lowered_expression (typed_expression c.args.e.now) c.args.next) (map command_tree c.args.out.now.items) _ c.from_residual-in_err-calculate-in-Arithmetic.result (err_from_is_err_and c.from_residual-in_err-calculate-in-Arithmetic.result c.from_residual-in_err-calculate-in-Arithmetic.ensures.1)

pub expression-returns-in_ok-calculate-in-Arithmetic : goal.expression-returns-in_ok-calculate-in-Arithmetic
expression-returns-in_ok-calculate-in-Arithmetic t c =
    arithmetic_returns c.args.e.now c.deref-in-Arithmetic.result.now c.deref-in-Arithmetic-3.result.now c.deref-in-Arithmetic-2.result.now c.in-Arithmetic.first c.in-Arithmetic.before c.in-Arithmetic.operator c.in-Arithmetic.right c.in-Arithmetic.is c.deref-in-Arithmetic.ensures c.deref-in-Arithmetic-2.ensures.value c.deref-in-Arithmetic-3.ensures c.args.next (map command_tree c.args.out.now.items) c.in_ok-start-in-Arithmetic.start _ _ c.in_ok-start-in-Arithmetic.ensures c.in_ok-left-in-Arithmetic.left c.in_ok-left-in-Arithmetic.ensures _ _ c.in_ok-last-in-Arithmetic.last c.in_ok-calculate-in-Arithmetic.field-0 c.in_ok-last-in-Arithmetic.ensures c.in_ok-calculate-in-Arithmetic.ensures.commands c.in_ok-calculate-in-Arithmetic.ensures.operand c.in_ok-calculate-in-Arithmetic.ensures.next

pub expression-returns-in_err-condition-in-Truth : goal.expression-returns-in_err-condition-in-Truth
expression-returns-in_err-condition-in-Truth t c =
    condition_fails c.args.e.now c.deref-in-Truth.result.now c.in-Truth.c c.in-Truth.is c.deref-in-Truth.ensures c.args.next (map command_tree c.args.out.now.items) _ c.in_err-condition-in-Truth.field-0.0 c.from_residual-in_err-condition-in-Truth.result (err_from_is_err_and c.from_residual-in_err-condition-in-Truth.result c.from_residual-in_err-condition-in-Truth.ensures.1) c.in_err-condition-in-Truth.ensures

pub expression-returns-in_ok-condition-in-Truth : goal.expression-returns-in_ok-condition-in-Truth
expression-returns-in_ok-condition-in-Truth t c =
    truth_returns c.args.e.now c.deref-in-Truth.result.now c.in-Truth.c c.in-Truth.is c.deref-in-Truth.ensures c.args.next (map command_tree c.args.out.now.items) _ c.in_ok-condition-in-Truth.field-0 c.as_given.result c.in_ok-condition-in-Truth.ensures c.as_given.ensures.operand c.as_given.ensures.next

pub expression-returns-in_err-x-in-Cell : goal.expression-returns-in_err-x-in-Cell
expression-returns-in_err-x-in-Cell t c =
    pointer_fails c.args.e.now c.deref-in-Cell.result.now c.deref-in-Cell-2.result.now c.in-Cell.pointer c.in-Cell.before (record { field = c.in-Cell.field; block = c.in-Cell.block; site = c.in-Cell.site }) c.in-Cell.is c.deref-in-Cell.ensures c.deref-in-Cell-2.ensures.value c.args.next (map command_tree c.args.out.now.items) _ c.in_err-x-in-Cell.field-0.0 c.from_residual-in_err-x-in-Cell.result (err_from_is_err_and c.from_residual-in_err-x-in-Cell.result c.from_residual-in_err-x-in-Cell.ensures.1) c.in_err-x-in-Cell.ensures

pub expression-returns-in_err-cell_value-in-Cell : goal.expression-returns-in_err-cell_value-in-Cell
expression-returns-in_err-cell_value-in-Cell t c =
    out_of_memory operand next (lowered_expression (typed_expression c.args.e.now) c.args.next) (map command_tree c.args.out.now.items) _ c.from_residual-in_err-cell_value-in-Cell.result (err_from_is_err_and c.from_residual-in_err-cell_value-in-Cell.result c.from_residual-in_err-cell_value-in-Cell.ensures.1)

pub expression-returns-in_ok-cell_value-in-Cell : goal.expression-returns-in_ok-cell_value-in-Cell
expression-returns-in_ok-cell_value-in-Cell t c =
    cell_returns c.args.e.now c.deref-in-Cell.result.now c.deref-in-Cell-2.result.now c.in-Cell.pointer c.in-Cell.before (record { field = c.in-Cell.field; block = c.in-Cell.block; site = c.in-Cell.site }) c.in-Cell.is c.deref-in-Cell.ensures c.deref-in-Cell-2.ensures.value c.args.next (map command_tree c.args.out.now.items) _ c.in_ok-x-in-Cell.x c.in_ok-cell_value-in-Cell.field-0 _ c.in_ok-x-in-Cell.ensures c.in_ok-cell_value-in-Cell.ensures.commands c.in_ok-cell_value-in-Cell.ensures.operand c.in_ok-cell_value-in-Cell.ensures.next

pub expression-returns-in_err-x-in-Call : goal.expression-returns-in_err-x-in-Call
expression-returns-in_err-x-in-Call t c =
    arguments_fail c.args.e.now c.deref-in-Call.result.now c.in-Call.proc c.in-Call.es c.in-Call.result c.in-Call.site c.in-Call.is c.deref-in-Call.ensures.value c.args.next (map command_tree c.args.out.now.items) _ c.in_err-x-in-Call.field-0.0 c.from_residual-in_err-x-in-Call.result (err_from_is_err_and c.from_residual-in_err-x-in-Call.result c.from_residual-in_err-x-in-Call.ensures.1) c.in_err-x-in-Call.ensures

pub expression-returns-in_err-used_call-in-Call : goal.expression-returns-in_err-used_call-in-Call
expression-returns-in_err-used_call-in-Call t c =
    out_of_memory operand next (lowered_expression (typed_expression c.args.e.now) c.args.next) (map command_tree c.args.out.now.items) _ c.from_residual-in_err-used_call-in-Call.result (err_from_is_err_and c.from_residual-in_err-used_call-in-Call.result c.from_residual-in_err-used_call-in-Call.ensures.1)

pub expression-returns-in_ok-used_call-in-Call : goal.expression-returns-in_ok-used_call-in-Call
expression-returns-in_ok-used_call-in-Call t c =
    call_returns c.args.e.now c.deref-in-Call.result.now c.in-Call.proc c.in-Call.es c.in-Call.result c.in-Call.site c.in-Call.is c.deref-in-Call.ensures.value c.args.next (map command_tree c.args.out.now.items) _ c.in_ok-x-in-Call.x c.in_ok-used_call-in-Call.field-0 _ c.in_ok-x-in-Call.ensures c.in_ok-used_call-in-Call.ensures.commands c.in_ok-used_call-in-Call.ensures.operand c.in_ok-used_call-in-Call.ensures.next

pub expression-returns-in_err-next-in-Stop : goal.expression-returns-in_err-next-in-Stop
expression-returns-in_err-next-in-Stop t c =
    parts_fail c.args.e.now c.deref-in-Stop.result.now c.in-Stop.word c.in-Stop.site c.in-Stop.parts c.in-Stop.is c.deref-in-Stop.ensures.value c.args.next (map command_tree c.args.out.now.items) _ c.in_err-next-in-Stop.field-0.0 c.from_residual-in_err-next-in-Stop.result (err_from_is_err_and c.from_residual-in_err-next-in-Stop.result c.from_residual-in_err-next-in-Stop.ensures.1) c.in_err-next-in-Stop.ensures

pub expression-returns-in_err-put-in-Stop : goal.expression-returns-in_err-put-in-Stop
expression-returns-in_err-put-in-Stop t c =
    out_of_memory operand next (lowered_expression (typed_expression c.args.e.now) c.args.next) (map command_tree c.args.out.now.items) _ c.from_residual-in_err-put-in-Stop.result (err_from_is_err_and c.from_residual-in_err-put-in-Stop.result c.from_residual-in_err-put-in-Stop.ensures.1)

pub expression-returns-in_ok-put-in-Stop : goal.expression-returns-in_ok-put-in-Stop
expression-returns-in_ok-put-in-Stop t c =
    stop_returns c.args.e.now c.deref-in-Stop.result.now c.in-Stop.word c.in-Stop.site c.in-Stop.parts c.in-Stop.is c.deref-in-Stop.ensures.value c.args.next (map command_tree c.args.out.now.items) _ c.in_ok-next-in-Stop.next _ c.in_ok-next-in-Stop.ensures (c.in_ok-put-in-Stop.ensures ∙ ap (λ k. map command_tree c.effects.new.out.items ++ k ∷ []) (tree-Stop c.in-Stop.word c.in-Stop.site))

pub effects-loop-part-init : goal.effects-loop-part-init
effects-loop-part-init t c =
    λ last r h. h

pub effects-loop-part-preserved : goal.effects-loop-part-preserved
effects-loop-part-preserved t c = λ last r h.
    c.loop-part.invariant last r (passed_more c.args.es.now c.loop-part.part-index c.part-item.result c.loop-part-test.true c.part-item.is c.loop-part.behind (map command_tree c.loop-part.out.items) (map command_tree c.effect.new.out.items) c.in_ok-behind.behind last r c.in_ok-behind.ensures h)

pub effects-returns-in_err-behind : goal.effects-returns-in_err-behind
effects-returns-in_err-behind t c =
    handed_on nothing itself (passed_all c.args.es.now c.args.next) (map command_tree c.args.out.now.items) _ c.from_residual.result c.in_err-behind.field-0.0 (err_from_is_err_and c.from_residual.result c.from_residual.ensures.1)
    (c.loop-part.invariant (map command_tree c.effect.new.out.items) (Err c.in_err-behind.field-0.0) (passed_fails c.args.es.now c.loop-part.part-index c.part-item.result c.loop-part-test.true c.part-item.is c.loop-part.behind (map command_tree c.loop-part.out.items) (map command_tree c.effect.new.out.items) c.in_err-behind.field-0.0 c.in_err-behind.ensures))

pub effects-returns : goal.effects-returns
effects-returns t c =
    c.loop-part.invariant (map command_tree c.loop-part.out.items) (Ok c.loop-part.behind) (passed_end c.args.es.now c.loop-part.part-index c.loop-part-test.false c.loop-part.behind (map command_tree c.loop-part.out.items))

pub effect-returns-in-Local : goal.effect-returns-in-Local
effect-returns-in-Local t c =
    subst (λ e. Does (lowered_passed (an_expression (typed_expression e) no_expressions) c.args.next) (map command_tree c.args.out.now.items) (map command_tree c.args.out.now.items) (Ok c.args.next)) (sym c.in-Local.is) (sym (append-nil (map command_tree c.args.out.now.items)), refl, refl)

pub effect-returns-in_err-x-in-Cell : goal.effect-returns-in_err-x-in-Cell
effect-returns-in_err-x-in-Cell t c =
    passed_pointer_fails c.args.e.now c.deref.result.now c.deref-in-Cell.result.now c.in-Cell.pointer c.in-Cell.before (record { field = c.in-Cell.field; block = c.in-Cell.block; site = c.in-Cell.site }) c.in-Cell.is c.deref.ensures c.deref-in-Cell.ensures.value c.args.next (map command_tree c.args.out.now.items) _ c.in_err-x-in-Cell.field-0.0 c.from_residual.result (err_from_is_err_and c.from_residual.result c.from_residual.ensures.1) c.in_err-x-in-Cell.ensures

pub effect-returns-in_err-cell_reached-in-Cell : goal.effect-returns-in_err-cell_reached-in-Cell
effect-returns-in_err-cell_reached-in-Cell t c =
    out_of_memory nothing itself (lowered_passed (an_expression (typed_expression c.args.e.now) no_expressions) c.args.next) (map command_tree c.args.out.now.items) _ c.from_residual-in_err-cell_reached-in-Cell.result (err_from_is_err_and c.from_residual-in_err-cell_reached-in-Cell.result c.from_residual-in_err-cell_reached-in-Cell.ensures.1)

pub effect-returns-in_ok-cell_reached-in-Cell : goal.effect-returns-in_ok-cell_reached-in-Cell
effect-returns-in_ok-cell_reached-in-Cell t c =
    passed_cell_returns c.args.e.now c.deref.result.now c.deref-in-Cell.result.now c.in-Cell.pointer c.in-Cell.before (record { field = c.in-Cell.field; block = c.in-Cell.block; site = c.in-Cell.site }) c.in-Cell.is c.deref.ensures c.deref-in-Cell.ensures.value c.args.next (map command_tree c.args.out.now.items) _ c.in_ok-x-in-Cell.x c.in_ok-cell_reached-in-Cell.field-0 _ c.in_ok-x-in-Cell.ensures c.in_ok-cell_reached-in-Cell.ensures.commands c.in_ok-cell_reached-in-Cell.ensures.next

pub effect-returns-in_err-x-in-Call : goal.effect-returns-in_err-x-in-Call
effect-returns-in_err-x-in-Call t c =
    passed_arguments_fail c.args.e.now c.deref-in-Call.result.now c.in-Call.proc c.in-Call.es c.in-Call.result c.in-Call.site c.in-Call.is c.deref-in-Call.ensures.value c.args.next (map command_tree c.args.out.now.items) _ c.in_err-x-in-Call.field-0.0 c.from_residual-in_err-x-in-Call.result (err_from_is_err_and c.from_residual-in_err-x-in-Call.result c.from_residual-in_err-x-in-Call.ensures.1) c.in_err-x-in-Call.ensures

pub effect-returns-in_err-unused_call-in-Call : goal.effect-returns-in_err-unused_call-in-Call
effect-returns-in_err-unused_call-in-Call t c =
    out_of_memory nothing itself (lowered_passed (an_expression (typed_expression c.args.e.now) no_expressions) c.args.next) (map command_tree c.args.out.now.items) _ c.from_residual-in_err-unused_call-in-Call.result (err_from_is_err_and c.from_residual-in_err-unused_call-in-Call.result c.from_residual-in_err-unused_call-in-Call.ensures.1)

pub effect-returns-in_ok-unused_call-in-Call : goal.effect-returns-in_ok-unused_call-in-Call
effect-returns-in_ok-unused_call-in-Call t c =
    passed_call_returns c.args.e.now c.deref-in-Call.result.now c.in-Call.proc c.in-Call.es c.in-Call.result c.in-Call.site c.in-Call.is c.deref-in-Call.ensures.value c.args.next (map command_tree c.args.out.now.items) _ c.in_ok-x-in-Call.x c.in_ok-unused_call-in-Call.field-0 _ c.in_ok-x-in-Call.ensures c.in_ok-unused_call-in-Call.ensures.commands c.in_ok-unused_call-in-Call.ensures.next

pub effect-returns-in_err-expression-in_default : goal.effect-returns-in_err-expression-in_default
effect-returns-in_err-expression-in_default t c =
    passed_plain_fails (typed_expression c.args.e.now) (plain_seen c.args.e.now c.in_default.not-Local c.in_default.not-Cell c.in_default.not-Call) c.args.next (map command_tree c.args.out.now.items) _ c.in_err-expression-in_default.field-0.0 c.from_residual-in_err-expression-in_default.result (err_from_is_err_and c.from_residual-in_err-expression-in_default.result c.from_residual-in_err-expression-in_default.ensures.1) c.in_err-expression-in_default.ensures

pub effect-returns-in_ok-expression-in_default : goal.effect-returns-in_ok-expression-in_default
effect-returns-in_ok-expression-in_default t c =
    passed_plain_returns (typed_expression c.args.e.now) (plain_seen c.args.e.now c.in_default.not-Local c.in_default.not-Cell c.in_default.not-Call) c.args.next (map command_tree c.args.out.now.items) _ c.in_ok-expression-in_default.field-0 c.in_ok-expression-in_default.ensures

pub calculations-loop-link-init : goal.calculations-loop-link-init
calculations-loop-link-init t c = λ e n before h.
    (e, refl, h)

pub calculations-loop-link-preserved : goal.calculations-loop-link-preserved
calculations-loop-link-preserved t c = λ e n before h.
    calculated_step e c.args.links.now c.loop-link.link-index c.link-item.result n before (map command_tree c.loop-link.out.items) (map command_tree c.expression.new.out.items) c.loop-link.x c.loop-link-test.true c.link-item.is (c.loop-link.invariant e n before h) _ c.in_ok-y.y c.in_ok-x.x c.in_ok-y.ensures c.in_ok-x.ensures.commands c.in_ok-x.ensures.operand c.in_ok-x.ensures.next

pub calculations-returns-in_err-y : goal.calculations-returns-in_err-y
calculations-returns-in_err-y t c = λ e n before h.
    handed_on operand next (lowered_expression (calculated e (map arithmetic_link c.args.links.now)) n) before _ c.from_residual.result c.in_err-y.field-0.0 (err_from_is_err_and c.from_residual.result c.from_residual.ensures.1) (calculated_stops e c.args.links.now c.loop-link.link-index c.link-item.result n before (map command_tree c.loop-link.out.items) (map command_tree c.expression.new.out.items) c.loop-link.x c.loop-link-test.true c.link-item.is (c.loop-link.invariant e n before h) c.in_err-y.field-0.0 c.in_err-y.ensures)

pub calculations-returns-in_err-x : goal.calculations-returns-in_err-x
calculations-returns-in_err-x t c = λ e n before h.
    out_of_memory operand next (lowered_expression (calculated e (map arithmetic_link c.args.links.now)) n) before _ c.from_residual-in_err-x.result (err_from_is_err_and c.from_residual-in_err-x.result c.from_residual-in_err-x.ensures.1)

pub calculations-returns : goal.calculations-returns
calculations-returns t c = λ e n before h.
    calculated_all e c.args.links.now c.loop-link.link-index n before (map command_tree c.loop-link.out.items) c.loop-link.x c.loop-link-test.false (c.loop-link.invariant e n before h)

pub cells-returns-in_err-at : goal.cells-returns-in_err-at
cells-returns-in_err-at t c =
    handed_on operand next (lowered_expression (cells (typed_expression c.args.pointer.now) c.args.links.now) c.args.next) (map command_tree c.args.out.now.items) _ c.from_residual.result c.in_err-at.field-0.0 (err_from_is_err_and c.from_residual.result c.from_residual.ensures.1) (cells_fails (typed_expression c.args.pointer.now) c.args.links.now c.args.next (map command_tree c.args.out.now.items) _ c.in_err-at.field-0.0 c.in_err-at.ensures)

pub cells-loop-link-init : goal.cells-loop-link-init
cells-loop-link-init t c =
    ((typed_expression c.args.pointer.now), refl, c.in_ok-at.ensures)

pub cells-loop-link-preserved : goal.cells-loop-link-preserved
cells-loop-link-preserved t c =
    cells_step (typed_expression c.args.pointer.now) c.args.links.now c.loop-link.link-index _ c.args.next (map command_tree c.args.out.now.items) (map command_tree c.loop-link.out.items) _ c.loop-link.at c.in_ok-at-2.at c.loop-link-test.true c.loop-link.invariant c.in_ok-at-2.ensures.commands c.in_ok-at-2.ensures.operand c.in_ok-at-2.ensures.next

pub cells-returns-in_err-at-2 : goal.cells-returns-in_err-at-2
cells-returns-in_err-at-2 t c =
    out_of_memory operand next (lowered_expression (cells (typed_expression c.args.pointer.now) c.args.links.now) c.args.next) (map command_tree c.args.out.now.items) _ c.from_residual-in_err-at-2.result (err_from_is_err_and c.from_residual-in_err-at-2.result c.from_residual-in_err-at-2.ensures.1)

pub cells-returns : goal.cells-returns
cells-returns t c =
    cells_all (typed_expression c.args.pointer.now) c.args.links.now c.loop-link.link-index c.args.next (map command_tree c.args.out.now.items) (map command_tree c.loop-link.out.items) c.loop-link.at c.loop-link-test.false c.loop-link.invariant

pub arguments-returns-in_err-operands : goal.arguments-returns-in_err-operands
arguments-returns-in_err-operands t c =
    out_of_memory operands behind (all_arguments c.args.es.now c.args.next) (map command_tree c.args.out.now.items) _ c.from_residual.result (err_from_is_err_and c.from_residual.result c.from_residual.ensures.1)

pub arguments-loop-e-init : goal.arguments-loop-e-init
arguments-loop-e-init t c = λ last r h.
    arguments_begin c.in_ok-operands.operands.items c.args.es.now c.args.next (map command_tree c.args.out.now.items) last r c.in_ok-operands.ensures.items h

pub arguments-loop-e-preserved : goal.arguments-loop-e-preserved
arguments-loop-e-preserved t c = λ last r h.
    c.loop-e.invariant last r (argument_more c.args.es.now c.loop-e.e-index c.e-item.result c.loop-e-test.true c.e-item.is c.loop-e.operands.items c.argument.new.operands.items c.loop-e.behind (map command_tree c.loop-e.out.items) (map command_tree c.argument.new.out.items) c.in_ok-behind.behind last r c.in_ok-behind.ensures h)

pub arguments-returns-in_err-behind : goal.arguments-returns-in_err-behind
arguments-returns-in_err-behind t c =
    handed_on operands behind (all_arguments c.args.es.now c.args.next) (map command_tree c.args.out.now.items) _ c.from_residual-in_err-behind.result c.in_err-behind.field-0.0 (err_from_is_err_and c.from_residual-in_err-behind.result c.from_residual-in_err-behind.ensures.1)
    (c.loop-e.invariant (map command_tree c.argument.new.out.items) (Err c.in_err-behind.field-0.0) (argument_fails c.args.es.now c.loop-e.e-index c.e-item.result c.loop-e-test.true c.e-item.is c.loop-e.operands.items c.argument.new.operands.items c.loop-e.behind (map command_tree c.loop-e.out.items) (map command_tree c.argument.new.out.items) c.in_err-behind.field-0.0 c.in_err-behind.ensures))

pub arguments-returns : goal.arguments-returns
arguments-returns t c =
    c.loop-e.invariant (map command_tree c.loop-e.out.items) (Ok (record { operands = c.loop-e.operands; next = c.loop-e.behind })) (arguments_end c.args.es.now c.loop-e.e-index c.loop-e-test.false c.loop-e.operands.items c.loop-e.behind (map command_tree c.loop-e.out.items) (record { operands = c.loop-e.operands; next = c.loop-e.behind }) refl refl)

pub argument-returns-in_err-x-in-Passed : goal.argument-returns-in_err-x-in-Passed
argument-returns-in_err-x-in-Passed t c =
    argument_handed_on c.args.e.now c.args.next (map command_tree c.args.out.now.items) _ c.args.operands.now.items c.args.operands.now.items c.in_err-x-in-Passed.field-0.0 c.from_residual.result (err_from_is_err_and c.from_residual.result c.from_residual.ensures.1)
    (value_fails c.args.e.now c.args.next (map command_tree c.args.out.now.items) c.in-Passed.value c.in-Passed.is _ c.args.operands.now.items c.args.operands.now.items c.in_err-x-in-Passed.field-0.0 c.in_err-x-in-Passed.ensures)

pub argument-returns-in_err-push-in-Passed : goal.argument-returns-in_err-push-in-Passed
argument-returns-in_err-push-in-Passed t c =
    argument_without_memory c.args.e.now c.args.next (map command_tree c.args.out.now.items) _ c.args.operands.now.items _ c.from_residual-in_err-push-in-Passed.result (err_from_is_err_and c.from_residual-in_err-push-in-Passed.result c.from_residual-in_err-push-in-Passed.ensures.1)

pub argument-returns-in_ok-push-in-Passed : goal.argument-returns-in_ok-push-in-Passed
argument-returns-in_ok-push-in-Passed t c =
    value_returns c.args.e.now c.args.next (map command_tree c.args.out.now.items) c.in-Passed.value c.in-Passed.is _ c.args.operands.now.items _ c.in_ok-x-in-Passed.x c.in_ok-x-in-Passed.ensures c.in_ok-push-in-Passed.ensures.items

pub argument-returns-in-Erased : goal.argument-returns-in-Erased
argument-returns-in-Erased t c =
    parts_done c.args.e.now c.args.next (map command_tree c.args.out.now.items) c.deref.result.now c.in-Erased.parts c.in-Erased.is c.deref.ensures.value _ c.args.operands.now.items c.effects.result c.effects.ensures

pub condition-returns-in_err-x-in-Compare : goal.condition-returns-in_err-x-in-Compare
condition-returns-in_err-x-in-Compare t c =
    compare_first_fails c.args.c.now c.deref.result.now c.in-Compare.right.value c.in-Compare.before.items c.in-Compare.first c.in-Compare.before c.in-Compare.relation c.in-Compare.right c.in-Compare.site c.in-Compare.is c.deref.ensures refl refl c.args.next (map command_tree c.args.out.now.items) _ c.in_err-x-in-Compare.field-0.0 c.from_residual.result (err_from_is_err_and c.from_residual.result c.from_residual.ensures.1) c.in_err-x-in-Compare.ensures

pub condition-returns-in_err-left-in-Compare : goal.condition-returns-in_err-left-in-Compare
condition-returns-in_err-left-in-Compare t c =
    compare_left_fails c.args.c.now c.deref.result.now c.in-Compare.right.value c.deref-in-Compare.result.now c.in-Compare.first c.in-Compare.before c.in-Compare.relation c.in-Compare.right c.in-Compare.site c.in-Compare.is c.deref.ensures c.deref-in-Compare.ensures.value refl c.args.next (map command_tree c.args.out.now.items) c.in_ok-x-in-Compare.x _ _ c.in_ok-x-in-Compare.ensures c.in_err-left-in-Compare.field-0.0 c.from_residual-in_err-left-in-Compare.result (err_from_is_err_and c.from_residual-in_err-left-in-Compare.result c.from_residual-in_err-left-in-Compare.ensures.1) c.in_err-left-in-Compare.ensures

pub condition-returns-in_err-y-in-Compare : goal.condition-returns-in_err-y-in-Compare
condition-returns-in_err-y-in-Compare t c =
    compare_right_fails c.args.c.now c.deref.result.now c.deref-in-Compare-2.result.now c.deref-in-Compare.result.now c.in-Compare.first c.in-Compare.before c.in-Compare.relation c.in-Compare.right c.in-Compare.site c.in-Compare.is c.deref.ensures c.deref-in-Compare.ensures.value c.deref-in-Compare-2.ensures c.args.next (map command_tree c.args.out.now.items) c.in_ok-x-in-Compare.x _ _ c.in_ok-x-in-Compare.ensures c.in_ok-left-in-Compare.left c.in_ok-left-in-Compare.ensures _ c.in_err-y-in-Compare.field-0.0 c.from_residual-in_err-y-in-Compare.result (err_from_is_err_and c.from_residual-in_err-y-in-Compare.result c.from_residual-in_err-y-in-Compare.ensures.1) c.in_err-y-in-Compare.ensures

pub condition-returns-in_err-compare-in-Compare : goal.condition-returns-in_err-compare-in-Compare
condition-returns-in_err-compare-in-Compare t c =
    out_of_memory slot after (lowered_condition (typed_condition c.args.c.now) c.args.next) (map command_tree c.args.out.now.items) _ c.from_residual-in_err-compare-in-Compare.result (err_from_is_err_and c.from_residual-in_err-compare-in-Compare.result c.from_residual-in_err-compare-in-Compare.ensures.1)

pub condition-returns-in_ok-compare-in-Compare : goal.condition-returns-in_ok-compare-in-Compare
condition-returns-in_ok-compare-in-Compare t c =
    compare_returns c.args.c.now c.deref.result.now c.deref-in-Compare-2.result.now c.deref-in-Compare.result.now c.in-Compare.first c.in-Compare.before c.in-Compare.relation c.in-Compare.right c.in-Compare.site c.in-Compare.is c.deref.ensures c.deref-in-Compare.ensures.value c.deref-in-Compare-2.ensures c.args.next (map command_tree c.args.out.now.items) c.in_ok-x-in-Compare.x _ _ c.in_ok-x-in-Compare.ensures c.in_ok-left-in-Compare.left c.in_ok-left-in-Compare.ensures _ _ c.in_ok-y-in-Compare.y c.in_ok-compare-in-Compare.field-0 c.in_ok-y-in-Compare.ensures c.in_ok-compare-in-Compare.ensures.commands c.in_ok-compare-in-Compare.ensures.slot c.in_ok-compare-in-Compare.ensures.next

pub condition-returns-in_err-x-in-Word : goal.condition-returns-in_err-x-in-Word
condition-returns-in_err-x-in-Word t c =
    word_fails c.args.c.now c.deref-in-Word.result.now c.in-Word.operand c.in-Word.site c.args.next (map command_tree c.args.out.now.items) _ c.deref-in-Word.ensures c.in-Word.is c.in_err-x-in-Word.field-0.0 c.from_residual-in_err-x-in-Word.result (err_from_is_err_and c.from_residual-in_err-x-in-Word.result c.from_residual-in_err-x-in-Word.ensures.1) c.in_err-x-in-Word.ensures

pub condition-returns-in_err-compare-in-Word : goal.condition-returns-in_err-compare-in-Word
condition-returns-in_err-compare-in-Word t c =
    out_of_memory slot after (lowered_condition (typed_condition c.args.c.now) c.args.next) (map command_tree c.args.out.now.items) _ c.from_residual-in_err-compare-in-Word.result (err_from_is_err_and c.from_residual-in_err-compare-in-Word.result c.from_residual-in_err-compare-in-Word.ensures.1)

pub condition-returns-in_ok-compare-in-Word : goal.condition-returns-in_ok-compare-in-Word
condition-returns-in_ok-compare-in-Word t c =
    word_compared c.args.c.now c.deref-in-Word.result.now c.in-Word.operand c.in-Word.site c.args.next (map command_tree c.args.out.now.items) _ c.deref-in-Word.ensures c.in-Word.is c.in_ok-x-in-Word.x c.new-zero.result c.in_ok-compare-in-Word.field-0 _ c.new-zero.ensures.operand c.new-zero.ensures.next c.in_ok-x-in-Word.ensures c.in_ok-compare-in-Word.ensures.commands c.in_ok-compare-in-Word.ensures.slot c.in_ok-compare-in-Word.ensures.next

pub condition-returns-in_err-x-in-Pointer : goal.condition-returns-in_err-x-in-Pointer
condition-returns-in_err-x-in-Pointer t c =
    pointer_test_fails c.args.c.now c.deref-in-Pointer.result.now c.in-Pointer.operand c.in-Pointer.site c.args.next (map command_tree c.args.out.now.items) _ c.deref-in-Pointer.ensures c.in-Pointer.is c.in_err-x-in-Pointer.field-0.0 c.from_residual-in_err-x-in-Pointer.result (err_from_is_err_and c.from_residual-in_err-x-in-Pointer.result c.from_residual-in_err-x-in-Pointer.ensures.1) c.in_err-x-in-Pointer.ensures

pub condition-returns-in_err-compare-in-Pointer : goal.condition-returns-in_err-compare-in-Pointer
condition-returns-in_err-compare-in-Pointer t c =
    out_of_memory slot after (lowered_condition (typed_condition c.args.c.now) c.args.next) (map command_tree c.args.out.now.items) _ c.from_residual-in_err-compare-in-Pointer.result (err_from_is_err_and c.from_residual-in_err-compare-in-Pointer.result c.from_residual-in_err-compare-in-Pointer.ensures.1)

pub condition-returns-in_ok-compare-in-Pointer : goal.condition-returns-in_ok-compare-in-Pointer
condition-returns-in_ok-compare-in-Pointer t c =
    pointer_compared c.args.c.now c.deref-in-Pointer.result.now c.in-Pointer.operand c.in-Pointer.site c.args.next (map command_tree c.args.out.now.items) _ c.deref-in-Pointer.ensures c.in-Pointer.is c.in_ok-x-in-Pointer.x c.new-null.result c.in_ok-compare-in-Pointer.field-0 _ c.new-null.ensures.operand c.new-null.ensures.next c.in_ok-x-in-Pointer.ensures c.in_ok-compare-in-Pointer.ensures.commands c.in_ok-compare-in-Pointer.ensures.slot c.in_ok-compare-in-Pointer.ensures.next

pub condition-returns-in_err-x-in-And : goal.condition-returns-in_err-x-in-And
condition-returns-in_err-x-in-And t c =
    first_and_fails c.args.c.now c.deref-in-And.result.now c.in-And.right.value c.in-And.before.items c.in-And.first c.in-And.before c.in-And.right c.deref-in-And.ensures refl refl c.args.next (map command_tree c.args.out.now.items) c.in-And.is _ c.in_err-x-in-And.field-0.0 c.from_residual-in_err-x-in-And.result (err_from_is_err_and c.from_residual-in_err-x-in-And.result c.from_residual-in_err-x-in-And.ensures.1) c.in_err-x-in-And.ensures

pub condition-returns-in_err-left-in-And : goal.condition-returns-in_err-left-in-And
condition-returns-in_err-left-in-And t c =
    left_and_fails c.args.c.now c.deref-in-And.result.now c.in-And.right.value c.deref-in-And-2.result.now c.in-And.first c.in-And.before c.in-And.right c.deref-in-And.ensures c.deref-in-And-2.ensures.value refl c.args.next (map command_tree c.args.out.now.items) c.in-And.is c.in_ok-x-in-And.x _ _ c.in_ok-x-in-And.ensures c.in_err-left-in-And.field-0.0 c.from_residual-in_err-left-in-And.result (err_from_is_err_and c.from_residual-in_err-left-in-And.result c.from_residual-in_err-left-in-And.ensures.1) c.in_err-left-in-And.ensures

pub condition-returns-in_err-and_then-in-And : goal.condition-returns-in_err-and_then-in-And
condition-returns-in_err-and_then-in-And t c =
    out_of_memory slot after (lowered_condition (typed_condition c.args.c.now) c.args.next) (map command_tree c.args.out.now.items) _ c.from_residual-in_err-and_then-in-And.result (err_from_is_err_and c.from_residual-in_err-and_then-in-And.result c.from_residual-in_err-and_then-in-And.ensures.1)

pub condition-returns-in_ok-and_then-in-And : goal.condition-returns-in_ok-and_then-in-And
condition-returns-in_ok-and_then-in-And t c =
    and_returns c.args.c.now c.deref-in-And.result.now c.deref-in-And-3.result.now c.deref-in-And-2.result.now c.in-And.first c.in-And.before c.in-And.right c.deref-in-And.ensures c.deref-in-And-2.ensures.value c.deref-in-And-3.ensures c.args.next (map command_tree c.args.out.now.items) c.in-And.is c.in_ok-x-in-And.x _ _ c.in_ok-x-in-And.ensures c.in_ok-left-in-And.left c.in_ok-and_then-in-And.field-0 _ c.in_ok-left-in-And.ensures c.in_ok-and_then-in-And.ensures.commands c.in_ok-and_then-in-And.ensures.slot c.in_ok-and_then-in-And.ensures.next

pub condition-returns-in_err-x-in-Or : goal.condition-returns-in_err-x-in-Or
condition-returns-in_err-x-in-Or t c =
    first_or_fails c.args.c.now c.deref-in-Or.result.now c.in-Or.right.value c.in-Or.before.items c.in-Or.first c.in-Or.before c.in-Or.right c.deref-in-Or.ensures refl refl c.args.next (map command_tree c.args.out.now.items) c.in-Or.is _ c.in_err-x-in-Or.field-0.0 c.from_residual-in_err-x-in-Or.result (err_from_is_err_and c.from_residual-in_err-x-in-Or.result c.from_residual-in_err-x-in-Or.ensures.1) c.in_err-x-in-Or.ensures

pub condition-returns-in_err-left-in-Or : goal.condition-returns-in_err-left-in-Or
condition-returns-in_err-left-in-Or t c =
    left_or_fails c.args.c.now c.deref-in-Or.result.now c.in-Or.right.value c.deref-in-Or-2.result.now c.in-Or.first c.in-Or.before c.in-Or.right c.deref-in-Or.ensures c.deref-in-Or-2.ensures.value refl c.args.next (map command_tree c.args.out.now.items) c.in-Or.is c.in_ok-x-in-Or.x _ _ c.in_ok-x-in-Or.ensures c.in_err-left-in-Or.field-0.0 c.from_residual-in_err-left-in-Or.result (err_from_is_err_and c.from_residual-in_err-left-in-Or.result c.from_residual-in_err-left-in-Or.ensures.1) c.in_err-left-in-Or.ensures

pub condition-returns-in_err-or_else-in-Or : goal.condition-returns-in_err-or_else-in-Or
condition-returns-in_err-or_else-in-Or t c =
    out_of_memory slot after (lowered_condition (typed_condition c.args.c.now) c.args.next) (map command_tree c.args.out.now.items) _ c.from_residual-in_err-or_else-in-Or.result (err_from_is_err_and c.from_residual-in_err-or_else-in-Or.result c.from_residual-in_err-or_else-in-Or.ensures.1)

pub condition-returns-in_ok-or_else-in-Or : goal.condition-returns-in_ok-or_else-in-Or
condition-returns-in_ok-or_else-in-Or t c =
    or_returns c.args.c.now c.deref-in-Or.result.now c.deref-in-Or-3.result.now c.deref-in-Or-2.result.now c.in-Or.first c.in-Or.before c.in-Or.right c.deref-in-Or.ensures c.deref-in-Or-2.ensures.value c.deref-in-Or-3.ensures c.args.next (map command_tree c.args.out.now.items) c.in-Or.is c.in_ok-x-in-Or.x _ _ c.in_ok-x-in-Or.ensures c.in_ok-left-in-Or.left c.in_ok-or_else-in-Or.field-0 _ c.in_ok-left-in-Or.ensures c.in_ok-or_else-in-Or.ensures.commands c.in_ok-or_else-in-Or.ensures.slot c.in_ok-or_else-in-Or.ensures.next

pub condition-returns-in_err-x-in-Not : goal.condition-returns-in_err-x-in-Not
condition-returns-in_err-x-in-Not t c =
    opposite_fails c.args.c.now c.deref-in-Not.result.now c.in-Not.c c.in-Not.is c.deref-in-Not.ensures c.args.next (map command_tree c.args.out.now.items) _ c.in_err-x-in-Not.field-0.0 c.from_residual-in_err-x-in-Not.result (err_from_is_err_and c.from_residual-in_err-x-in-Not.result c.from_residual-in_err-x-in-Not.ensures.1) c.in_err-x-in-Not.ensures

pub condition-returns-in_err-opposite-in-Not : goal.condition-returns-in_err-opposite-in-Not
condition-returns-in_err-opposite-in-Not t c =
    out_of_memory slot after (lowered_condition (typed_condition c.args.c.now) c.args.next) (map command_tree c.args.out.now.items) _ c.from_residual-in_err-opposite-in-Not.result (err_from_is_err_and c.from_residual-in_err-opposite-in-Not.result c.from_residual-in_err-opposite-in-Not.ensures.1)

pub condition-returns-in_ok-opposite-in-Not : goal.condition-returns-in_ok-opposite-in-Not
condition-returns-in_ok-opposite-in-Not t c =
    opposite_returns c.args.c.now c.deref-in-Not.result.now c.in-Not.c c.in-Not.is c.deref-in-Not.ensures c.args.next (map command_tree c.args.out.now.items) _ c.in_ok-x-in-Not.x c.in_ok-opposite-in-Not.field-0 _ c.in_ok-x-in-Not.ensures c.in_ok-opposite-in-Not.ensures.commands c.in_ok-opposite-in-Not.ensures.slot c.in_ok-opposite-in-Not.ensures.next

pub comparisons-loop-link-init : goal.comparisons-loop-link-init
comparisons-loop-link-init t c = λ e n before h.
    (e, refl, h)

pub comparisons-loop-link-preserved : goal.comparisons-loop-link-preserved
comparisons-loop-link-preserved t c = λ e n before h.
    compared_step e c.args.links.now c.loop-link.link-index c.link-item.result n before (map command_tree c.loop-link.out.items) (map command_tree c.expression.new.out.items) c.loop-link.x c.loop-link-test.true c.link-item.is (c.loop-link.invariant e n before h) _ c.in_ok-y.y c.in_ok-outcome.outcome c.as_given-x.result c.in_ok-y.ensures c.in_ok-outcome.ensures.commands c.in_ok-outcome.ensures.slot c.in_ok-outcome.ensures.next c.as_given-x.ensures.operand c.as_given-x.ensures.next

pub comparisons-returns-in_err-y : goal.comparisons-returns-in_err-y
comparisons-returns-in_err-y t c = λ e n before h.
    handed_on operand next (lowered_expression (compared e (map relation_link c.args.links.now)) n) before _ c.from_residual.result c.in_err-y.field-0.0 (err_from_is_err_and c.from_residual.result c.from_residual.ensures.1) (compared_stops e c.args.links.now c.loop-link.link-index c.link-item.result n before (map command_tree c.loop-link.out.items) (map command_tree c.expression.new.out.items) c.loop-link.x c.loop-link-test.true c.link-item.is (c.loop-link.invariant e n before h) c.in_err-y.field-0.0 c.in_err-y.ensures)

pub comparisons-returns-in_err-outcome : goal.comparisons-returns-in_err-outcome
comparisons-returns-in_err-outcome t c = λ e n before h.
    out_of_memory operand next (lowered_expression (compared e (map relation_link c.args.links.now)) n) before _ c.from_residual-in_err-outcome.result (err_from_is_err_and c.from_residual-in_err-outcome.result c.from_residual-in_err-outcome.ensures.1)

pub comparisons-returns : goal.comparisons-returns
comparisons-returns t c = λ e n before h.
    compared_all e c.args.links.now c.loop-link.link-index n before (map command_tree c.loop-link.out.items) c.loop-link.x c.loop-link-test.false (c.loop-link.invariant e n before h)

pub conjunction-loop-right-init : goal.conjunction-loop-right-init
conjunction-loop-right-init t c = λ e n before h.
    (e, refl, h)

pub conjunction-loop-right-preserved : goal.conjunction-loop-right-preserved
conjunction-loop-right-preserved t c = λ e n before h.
    all_step e c.args.links.now c.loop-right.right-index c.right-item.result n before (map command_tree c.loop-right.out.items) _ c.loop-right.x c.in_ok-x.x c.loop-right-test.true c.right-item.is (c.loop-right.invariant e n before h) (c.in_ok-x.ensures.commands, c.in_ok-x.ensures.slot, c.in_ok-x.ensures.next)

pub conjunction-returns-in_err-x : goal.conjunction-returns-in_err-x
conjunction-returns-in_err-x t c = λ e n before h.
    out_of_memory slot after (lowered_condition (all_of e (map typed_condition c.args.links.now)) n) before _ c.from_residual.result (err_from_is_err_and c.from_residual.result c.from_residual.ensures.1)

pub conjunction-returns : goal.conjunction-returns
conjunction-returns t c = λ e n before h.
    holds_all all_of (λ t. refl) e c.args.links.now c.loop-right.right-index n before (map command_tree c.loop-right.out.items) c.loop-right.x c.loop-right-test.false (c.loop-right.invariant e n before h)

pub disjunction-loop-right-init : goal.disjunction-loop-right-init
disjunction-loop-right-init t c = λ e n before h.
    (e, refl, h)

pub disjunction-loop-right-preserved : goal.disjunction-loop-right-preserved
disjunction-loop-right-preserved t c = λ e n before h.
    any_step e c.args.links.now c.loop-right.right-index c.right-item.result n before (map command_tree c.loop-right.out.items) _ c.loop-right.x c.in_ok-x.x c.loop-right-test.true c.right-item.is (c.loop-right.invariant e n before h) (c.in_ok-x.ensures.commands, c.in_ok-x.ensures.slot, c.in_ok-x.ensures.next)

pub disjunction-returns-in_err-x : goal.disjunction-returns-in_err-x
disjunction-returns-in_err-x t c = λ e n before h.
    out_of_memory slot after (lowered_condition (any_of e (map typed_condition c.args.links.now)) n) before _ c.from_residual.result (err_from_is_err_and c.from_residual.result c.from_residual.ensures.1)

pub disjunction-returns : goal.disjunction-returns
disjunction-returns t c = λ e n before h.
    holds_all any_of (λ t. refl) e c.args.links.now c.loop-right.right-index n before (map command_tree c.loop-right.out.items) c.loop-right.x c.loop-right-test.false (c.loop-right.invariant e n before h)

pub and_then-returns-clause-commands : goal.and_then-returns-clause-commands
and_then-returns-clause-commands t c =
    (and_puts c.args.left.slot c.args.left.next (typed_condition c.args.right.now) (map command_tree c.args.out.now.items) (map command_tree c.decide.new.out.items) (map command_tree c.put.new.out.items) (map command_tree c.outcome.new.out.items) (map command_tree c.new-other.result.items) c.outcome.result c.in_ok-next.next
    (c.in_ok-copied.ensures.commands ∙ ap (λ k. (map command_tree c.args.out.now.items) ++ k ∷ []) c.copy_of.ensures) (ap (map command_tree) c.new-other.ensures.items) (c.in_ok-put.ensures ∙ ap (λ k. map command_tree c.decide.new.out.items ++ k ∷ []) (tree-If c.args.left.next c.outcome.new.out c.new-other.result))
    (map command_tree c.new-then.result.items) (ap (map command_tree) c.new-then.ensures.items)
    (subst (λ n. Does (copied c.args.left.next (lowered_condition (typed_condition c.args.right.now) n)) (map command_tree c.new-then.result.items) (map command_tree c.outcome.new.out.items) c.outcome.result) c.in_ok-copied.ensures.next c.outcome.ensures) c.in_ok-next.ensures).0

pub and_then-returns-clause-next : goal.and_then-returns-clause-next
and_then-returns-clause-next t c =
    (and_puts c.args.left.slot c.args.left.next (typed_condition c.args.right.now) (map command_tree c.args.out.now.items) (map command_tree c.decide.new.out.items) (map command_tree c.put.new.out.items) (map command_tree c.outcome.new.out.items) (map command_tree c.new-other.result.items) c.outcome.result c.in_ok-next.next
    (c.in_ok-copied.ensures.commands ∙ ap (λ k. (map command_tree c.args.out.now.items) ++ k ∷ []) c.copy_of.ensures) (ap (map command_tree) c.new-other.ensures.items) (c.in_ok-put.ensures ∙ ap (λ k. map command_tree c.decide.new.out.items ++ k ∷ []) (tree-If c.args.left.next c.outcome.new.out c.new-other.result))
    (map command_tree c.new-then.result.items) (ap (map command_tree) c.new-then.ensures.items)
    (subst (λ n. Does (copied c.args.left.next (lowered_condition (typed_condition c.args.right.now) n)) (map command_tree c.new-then.result.items) (map command_tree c.outcome.new.out.items) c.outcome.result) c.in_ok-copied.ensures.next c.outcome.ensures) c.in_ok-next.ensures).1

pub or_else-returns-clause-commands : goal.or_else-returns-clause-commands
or_else-returns-clause-commands t c =
    (or_puts c.args.left.slot c.args.left.next (typed_condition c.args.right.now) (map command_tree c.args.out.now.items) (map command_tree c.decide.new.out.items) (map command_tree c.put.new.out.items) (map command_tree c.outcome.new.out.items) (map command_tree c.new-then.result.items) c.outcome.result c.in_ok-next.next
    (c.in_ok-copied.ensures.commands ∙ ap (λ k. (map command_tree c.args.out.now.items) ++ k ∷ []) c.copy_of.ensures) (ap (map command_tree) c.new-then.ensures.items) (c.in_ok-put.ensures ∙ ap (λ k. map command_tree c.decide.new.out.items ++ k ∷ []) (tree-If c.args.left.next c.new-then.result c.outcome.new.out))
    (map command_tree c.new-other.result.items) (ap (map command_tree) c.new-other.ensures.items)
    (subst (λ n. Does (copied c.args.left.next (lowered_condition (typed_condition c.args.right.now) n)) (map command_tree c.new-other.result.items) (map command_tree c.outcome.new.out.items) c.outcome.result) c.in_ok-copied.ensures.next c.outcome.ensures) c.in_ok-next.ensures).0

pub or_else-returns-clause-next : goal.or_else-returns-clause-next
or_else-returns-clause-next t c =
    (or_puts c.args.left.slot c.args.left.next (typed_condition c.args.right.now) (map command_tree c.args.out.now.items) (map command_tree c.decide.new.out.items) (map command_tree c.put.new.out.items) (map command_tree c.outcome.new.out.items) (map command_tree c.new-then.result.items) c.outcome.result c.in_ok-next.next
    (c.in_ok-copied.ensures.commands ∙ ap (λ k. (map command_tree c.args.out.now.items) ++ k ∷ []) c.copy_of.ensures) (ap (map command_tree) c.new-then.ensures.items) (c.in_ok-put.ensures ∙ ap (λ k. map command_tree c.decide.new.out.items ++ k ∷ []) (tree-If c.args.left.next c.new-then.result c.outcome.new.out))
    (map command_tree c.new-other.result.items) (ap (map command_tree) c.new-other.ensures.items)
    (subst (λ n. Does (copied c.args.left.next (lowered_condition (typed_condition c.args.right.now) n)) (map command_tree c.new-other.result.items) (map command_tree c.outcome.new.out.items) c.outcome.result) c.in_ok-copied.ensures.next c.outcome.ensures) c.in_ok-next.ensures).1

pub outcome-returns-in_err-y : goal.outcome-returns-in_err-y
outcome-returns-in_err-y t c =
    outcome_fails (typed_condition c.args.right.now) c.args.next c.args.to (map command_tree c.args.out.now.items) _ c.in_err-y.field-0.0 c.from_residual.result (err_from_is_err_and c.from_residual.result c.from_residual.ensures.1) c.in_err-y.ensures

pub outcome-returns-in_err-put : goal.outcome-returns-in_err-put
outcome-returns-in_err-put t c =
    out_of_memory nothing itself (copied c.args.to (lowered_condition (typed_condition c.args.right.now) c.args.next)) (map command_tree c.args.out.now.items) _ c.from_residual-in_err-put.result (err_from_is_err_and c.from_residual-in_err-put.result c.from_residual-in_err-put.ensures.1)

pub outcome-returns : goal.outcome-returns
outcome-returns t c =
    outcome_returns (typed_condition c.args.right.now) c.args.next c.args.to (map command_tree c.args.out.now.items) _ c.in_ok-y.y c.in_ok-y.y.next _ c.in_ok-y.ensures (c.in_ok-put.ensures ∙ ap (λ k. map command_tree c.condition.new.out.items ++ k ∷ []) c.copy_of.ensures) refl
