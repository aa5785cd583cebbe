use Rattle.std.proofs.Common.{◌∙◌, suc, ◌++◌, ◌∷◌, [], map, ap, ap₂}
use Rattle.std.proofs.lemmas.Result.{err_from_is_err_and}
use Rattle.px_core.specs.CommandTree.{command_tree, load, unset}
use Rattle.px_syntax.specs.TypedTree.{expressions_of}
use Rattle.px_syntax.specs.TypedViews.{typed_expression}
use Rattle.px_lower.specs.Lowering.{lowered_access}
use Rattle.px_lower.proofs.Arms.{out_of_memory, nothing, itself}
use Rattle.px_lower.proofs.SimpleArms.{accessed_pointer_fails, accessed_parts_fail, accessed_returns}
use Rattle.px_lower.proofs.simple.access.Goals as goal

pub returns-in_err-x : goal.returns-in_err-x
returns-in_err-x c =
    accessed_pointer_fails (typed_expression c.args.pointer.now) (expressions_of (map typed_expression c.args.parts.now)) c.args.cell c.args.next (map command_tree c.args.out.now.items) _ c.in_err-x.field-0.0 c.from_residual.result (err_from_is_err_and c.from_residual.result c.from_residual.ensures.1) c.in_err-x.ensures

pub returns-in_err-behind : goal.returns-in_err-behind
returns-in_err-behind c =
    accessed_parts_fail (typed_expression c.args.pointer.now) (expressions_of (map typed_expression c.args.parts.now)) c.args.cell c.args.next (map command_tree c.args.out.now.items) _ c.in_ok-x.x c.in_ok-x.ensures _ c.in_err-behind.field-0.0 c.from_residual-in_err-behind.result (err_from_is_err_and c.from_residual-in_err-behind.result c.from_residual-in_err-behind.ensures.1) c.in_err-behind.ensures

pub returns-in_err-cell_reached : goal.returns-in_err-cell_reached
returns-in_err-cell_reached c =
    out_of_memory nothing itself (lowered_access (typed_expression c.args.pointer.now) (expressions_of (map typed_expression c.args.parts.now)) c.args.cell.field c.args.cell.block c.args.cell.site c.args.next) (map command_tree c.args.out.now.items) _ c.from_residual-in_err-cell_reached.result (err_from_is_err_and c.from_residual-in_err-cell_reached.result c.from_residual-in_err-cell_reached.ensures.1)

pub returns : goal.returns
returns c =
    let l = c.args.cell in
    accessed_returns (typed_expression c.args.pointer.now) (expressions_of (map typed_expression c.args.parts.now)) l c.args.next (map command_tree c.args.out.now.items) _ c.in_ok-x.x c.in_ok-x.ensures _ c.in_ok-behind.behind c.in_ok-cell_reached.field-0 _ c.in_ok-behind.ensures
    (c.in_ok-cell_reached.ensures.commands ∙ ap₂ (λ o m. map command_tree c.effects.new.out.items ++ load m o l.field l.block l.site ∷ unset m ∷ []) c.new-at.ensures.operand c.new-at.ensures.next) (c.in_ok-cell_reached.ensures.next ∙ ap suc c.new-at.ensures.next)
