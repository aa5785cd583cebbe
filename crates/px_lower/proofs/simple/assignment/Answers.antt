use Rattle.std.proofs.Common.{◌∙◌, ◌++◌, ◌∷◌, [], map, refl, ap}
use Rattle.std.proofs.lemmas.Result.{err_from_is_err_and}
use Rattle.px_core.specs.CommandTree.{command_tree}
use Rattle.px_core.proofs.CommandEquations.{tree-Store}
use Rattle.px_syntax.specs.TypedViews.{typed_expression, typed_place}
use Rattle.px_lower.specs.Lowering.{lowered_assignment}
use Rattle.px_lower.proofs.Arms.{out_of_memory, nothing, itself}
use Rattle.px_lower.proofs.SimpleArms.{local_fails, local_returns, pointer_fails, stored_fails, stored_returns}
use Rattle.px_lower.proofs.simple.assignment.Goals as goal

pub returns-in_err-x-in-Local : goal.returns-in_err-x-in-Local
returns-in_err-x-in-Local c =
    local_fails c.args.place.now c.args.value.now c.args.next (map command_tree c.args.out.now.items) _ c.in-Local.local c.in-Local.site c.in-Local.is c.in_err-x-in-Local.field-0.0 c.from_residual.result (err_from_is_err_and c.from_residual.result c.from_residual.ensures.1) c.in_err-x-in-Local.ensures

pub returns-in_err-put-in-Local : goal.returns-in_err-put-in-Local
returns-in_err-put-in-Local c =
    out_of_memory nothing itself (lowered_assignment (typed_place c.args.place.now) (typed_expression c.args.value.now) c.args.next) (map command_tree c.args.out.now.items) _ c.from_residual-in_err-put-in-Local.result (err_from_is_err_and c.from_residual-in_err-put-in-Local.result c.from_residual-in_err-put-in-Local.ensures.1)

pub returns-in_ok-put-in-Local : goal.returns-in_ok-put-in-Local
returns-in_ok-put-in-Local c =
    local_returns c.args.place.now c.args.value.now c.args.next (map command_tree c.args.out.now.items) _ c.in-Local.local c.in-Local.site c.in-Local.is c.in_ok-x-in-Local.x c.in_ok-x-in-Local.x.next _ c.in_ok-x-in-Local.ensures (c.in_ok-put-in-Local.ensures ∙ ap (λ k. map command_tree c.expression.new.out.items ++ k ∷ []) c.copy_of.ensures) refl

pub returns-in_err-x-in-Cell : goal.returns-in_err-x-in-Cell
returns-in_err-x-in-Cell c =
    pointer_fails c.args.place.now c.args.value.now c.args.next (map command_tree c.args.out.now.items) _ c.in-Cell.site c.in-Cell.field c.in-Cell.block c.in-Cell.pointer c.deref.result.now c.in-Cell.is c.deref.ensures c.in_err-x-in-Cell.field-0.0 c.from_residual-in_err-x-in-Cell.result (err_from_is_err_and c.from_residual-in_err-x-in-Cell.result c.from_residual-in_err-x-in-Cell.ensures.1) c.in_err-x-in-Cell.ensures

pub returns-in_err-y-in-Cell : goal.returns-in_err-y-in-Cell
returns-in_err-y-in-Cell c =
    stored_fails c.args.place.now c.args.value.now c.args.next (map command_tree c.args.out.now.items) _ c.in-Cell.site c.in-Cell.field c.in-Cell.block c.in-Cell.pointer c.deref.result.now c.in-Cell.is c.deref.ensures c.in_ok-x-in-Cell.x c.in_ok-x-in-Cell.ensures _ c.in_err-y-in-Cell.field-0.0 c.from_residual-in_err-y-in-Cell.result (err_from_is_err_and c.from_residual-in_err-y-in-Cell.result c.from_residual-in_err-y-in-Cell.ensures.1) c.in_err-y-in-Cell.ensures

pub returns-in_err-put-in-Cell : goal.returns-in_err-put-in-Cell
returns-in_err-put-in-Cell c =
    out_of_memory nothing itself (lowered_assignment (typed_place c.args.place.now) (typed_expression c.args.value.now) c.args.next) (map command_tree c.args.out.now.items) _ c.from_residual-in_err-put-in-Cell.result (err_from_is_err_and c.from_residual-in_err-put-in-Cell.result c.from_residual-in_err-put-in-Cell.ensures.1)

pub returns-in_ok-put-in-Cell : goal.returns-in_ok-put-in-Cell
returns-in_ok-put-in-Cell c =
    stored_returns c.args.place.now c.args.value.now c.args.next (map command_tree c.args.out.now.items) _ c.in-Cell.site c.in-Cell.field c.in-Cell.block c.in-Cell.pointer c.deref.result.now c.in-Cell.is c.deref.ensures c.in_ok-x-in-Cell.x c.in_ok-x-in-Cell.ensures _ c.in_ok-y-in-Cell.y c.in_ok-y-in-Cell.y.next _ c.in_ok-y-in-Cell.ensures (c.in_ok-put-in-Cell.ensures ∙ ap (λ k. map command_tree c.expression-in-Cell-2.new.out.items ++ k ∷ []) (tree-Store c.in_ok-x-in-Cell.x.operand c.in-Cell.field c.in-Cell.block c.in_ok-y-in-Cell.y.operand c.in-Cell.site)) refl
