use Rattle.std.proofs.Common.{◌∙◌, ◌++◌, ◌∷◌, [], map, refl, ap}
use Rattle.std.proofs.lemmas.Result.{err_from_is_err_and}
use Rattle.px_core.specs.CommandTree.{command_tree}
use Rattle.px_core.proofs.CommandEquations.{tree-Store}
use Rattle.px_syntax.specs.TypedViews.{typed_expression, typed_place}
use Rattle.px_lower.specs.Lowering.{lowered_update, operation}
use Rattle.px_lower.proofs.Arms.{out_of_memory, nothing, itself}
use Rattle.px_lower.proofs.SimpleArms.{update_local_fails, update_local_returns, update_pointer_fails, update_value_fails, update_returns}
use Rattle.px_lower.proofs.simple.update.Goals as goal

pub returns-in_err-old-in-Local : goal.returns-in_err-old-in-Local
returns-in_err-old-in-Local c =
    out_of_memory nothing itself (lowered_update c.args.op (typed_place c.args.place.now) (typed_expression c.args.value.now) c.args.next) (map command_tree c.args.out.now.items) _ c.from_residual.result (err_from_is_err_and c.from_residual.result c.from_residual.ensures.1)

pub returns-in_err-x-in-Local : goal.returns-in_err-x-in-Local
returns-in_err-x-in-Local c =
    update_local_fails c.args.op c.args.place.now c.args.value.now c.args.next (map command_tree c.args.out.now.items) c.in-Local.local c.in-Local.site c.in-Local.is (map command_tree c.local_value.new.out.items) _ c.in_ok-old-in-Local.ensures.commands c.in_err-x-in-Local.field-0.0 c.from_residual-in_err-x-in-Local.result (err_from_is_err_and c.from_residual-in_err-x-in-Local.result c.from_residual-in_err-x-in-Local.ensures.1) c.in_err-x-in-Local.ensures

pub returns-in_err-new-in-Local : goal.returns-in_err-new-in-Local
returns-in_err-new-in-Local c =
    out_of_memory nothing itself (lowered_update c.args.op (typed_place c.args.place.now) (typed_expression c.args.value.now) c.args.next) (map command_tree c.args.out.now.items) _ c.from_residual-in_err-new-in-Local.result (err_from_is_err_and c.from_residual-in_err-new-in-Local.result c.from_residual-in_err-new-in-Local.ensures.1)

pub returns-in_err-put-in-Local : goal.returns-in_err-put-in-Local
returns-in_err-put-in-Local c =
    out_of_memory nothing itself (lowered_update c.args.op (typed_place c.args.place.now) (typed_expression c.args.value.now) c.args.next) (map command_tree c.args.out.now.items) _ c.from_residual-in_err-put-in-Local.result (err_from_is_err_and c.from_residual-in_err-put-in-Local.result c.from_residual-in_err-put-in-Local.ensures.1)

pub returns-in_ok-put-in-Local : goal.returns-in_ok-put-in-Local
returns-in_ok-put-in-Local c =
    update_local_returns c.args.op c.args.place.now c.args.value.now c.args.next (map command_tree c.args.out.now.items) c.in-Local.local c.in-Local.site c.in-Local.is (map command_tree c.local_value.new.out.items) _ c.in_ok-old-in-Local.ensures.commands c.in_ok-x-in-Local.x c.in_ok-new-in-Local.new c.in_ok-new-in-Local.new.next (map command_tree c.calculate.new.out.items) _ c.in_ok-x-in-Local.ensures
    (c.in_ok-new-in-Local.ensures.commands ∙ ap (λ o. map command_tree c.expression.new.out.items ++ operation c.args.op o c.in_ok-x-in-Local.x.operand c.in_ok-x-in-Local.x.next) c.in_ok-old-in-Local.ensures.operand) c.in_ok-new-in-Local.ensures.operand c.in_ok-new-in-Local.ensures.next
    (c.in_ok-put-in-Local.ensures ∙ ap (λ k. map command_tree c.calculate.new.out.items ++ k ∷ []) c.copy_of.ensures) refl

pub returns-in_err-x-in-Cell : goal.returns-in_err-x-in-Cell
returns-in_err-x-in-Cell c =
    update_pointer_fails c.args.op c.args.place.now c.args.value.now c.args.next (map command_tree c.args.out.now.items) c.in-Cell.site c.in-Cell.field c.in-Cell.block c.in-Cell.pointer c.deref.result.now c.in-Cell.is c.deref.ensures _ c.in_err-x-in-Cell.field-0.0 c.from_residual-in_err-x-in-Cell.result (err_from_is_err_and c.from_residual-in_err-x-in-Cell.result c.from_residual-in_err-x-in-Cell.ensures.1) c.in_err-x-in-Cell.ensures

pub returns-in_err-old-in-Cell : goal.returns-in_err-old-in-Cell
returns-in_err-old-in-Cell c =
    out_of_memory nothing itself (lowered_update c.args.op (typed_place c.args.place.now) (typed_expression c.args.value.now) c.args.next) (map command_tree c.args.out.now.items) _ c.from_residual-in_err-old-in-Cell.result (err_from_is_err_and c.from_residual-in_err-old-in-Cell.result c.from_residual-in_err-old-in-Cell.ensures.1)

pub returns-in_err-y-in-Cell : goal.returns-in_err-y-in-Cell
returns-in_err-y-in-Cell c =
    update_value_fails c.args.op c.args.place.now c.args.value.now c.args.next (map command_tree c.args.out.now.items) c.in-Cell.site c.in-Cell.field c.in-Cell.block c.in-Cell.pointer c.deref.result.now c.in-Cell.is c.deref.ensures _ c.in_ok-x-in-Cell.x c.in_ok-old-in-Cell.old c.in_ok-x-in-Cell.ensures _ _ c.in_ok-old-in-Cell.ensures.commands c.in_ok-old-in-Cell.ensures.operand c.in_ok-old-in-Cell.ensures.next c.in_err-y-in-Cell.field-0.0 c.from_residual-in_err-y-in-Cell.result (err_from_is_err_and c.from_residual-in_err-y-in-Cell.result c.from_residual-in_err-y-in-Cell.ensures.1) c.in_err-y-in-Cell.ensures

pub returns-in_err-new-in-Cell : goal.returns-in_err-new-in-Cell
returns-in_err-new-in-Cell c =
    out_of_memory nothing itself (lowered_update c.args.op (typed_place c.args.place.now) (typed_expression c.args.value.now) c.args.next) (map command_tree c.args.out.now.items) _ c.from_residual-in_err-new-in-Cell.result (err_from_is_err_and c.from_residual-in_err-new-in-Cell.result c.from_residual-in_err-new-in-Cell.ensures.1)

pub returns-in_err-put-in-Cell : goal.returns-in_err-put-in-Cell
returns-in_err-put-in-Cell c =
    out_of_memory nothing itself (lowered_update c.args.op (typed_place c.args.place.now) (typed_expression c.args.value.now) c.args.next) (map command_tree c.args.out.now.items) _ c.from_residual-in_err-put-in-Cell.result (err_from_is_err_and c.from_residual-in_err-put-in-Cell.result c.from_residual-in_err-put-in-Cell.ensures.1)

pub returns-in_ok-put-in-Cell : goal.returns-in_ok-put-in-Cell
returns-in_ok-put-in-Cell c =
    update_returns c.args.op c.args.place.now c.args.value.now c.args.next (map command_tree c.args.out.now.items) c.in-Cell.site c.in-Cell.field c.in-Cell.block c.in-Cell.pointer c.deref.result.now c.in-Cell.is c.deref.ensures _ c.in_ok-x-in-Cell.x c.in_ok-old-in-Cell.old c.in_ok-x-in-Cell.ensures _ _ c.in_ok-old-in-Cell.ensures.commands c.in_ok-old-in-Cell.ensures.operand c.in_ok-old-in-Cell.ensures.next c.in_ok-y-in-Cell.y c.in_ok-new-in-Cell.new c.in_ok-new-in-Cell.new.next (map command_tree c.calculate-in-Cell.new.out.items) _ c.in_ok-y-in-Cell.ensures c.in_ok-new-in-Cell.ensures.commands c.in_ok-new-in-Cell.ensures.operand c.in_ok-new-in-Cell.ensures.next
    (c.in_ok-put-in-Cell.ensures ∙ ap (λ k. map command_tree c.calculate-in-Cell.new.out.items ++ k ∷ []) (tree-Store c.in_ok-x-in-Cell.x.operand c.in-Cell.field c.in-Cell.block c.in_ok-new-in-Cell.new.operand c.in-Cell.site)) refl
