use Rattle.std.proofs.Common.{◌∙◌, ◌++◌, ◌∷◌, [], map, Some, None, Ok, refl, sym, ap, subst}
use Rattle.std.proofs.lemmas.Result.{err_from_is_err_and}
use Rattle.px_core.specs.CommandTree.{command_tree}
use Rattle.px_core.proofs.CommandEquations.{tree-Return}
use Rattle.px_lower.specs.Lowering.{lowered_return}
use Rattle.px_lower.specs.Chains.{Does}
use Rattle.px_lower.proofs.Arms.{out_of_memory, nothing, itself}
use Rattle.px_lower.proofs.SimpleArms.{value_of, return_fails, return_returns}
use Rattle.px_lower.proofs.simple.give_back.Goals as goal

pub returns-in_err-put-in-None : goal.returns-in_err-put-in-None
returns-in_err-put-in-None c =
    out_of_memory nothing itself (lowered_return (value_of c.args.value.now) c.args.next) (map command_tree c.args.out.now.items) _ c.from_residual.result (err_from_is_err_and c.from_residual.result c.from_residual.ensures.1)

pub returns-in_ok-put-in-None : goal.returns-in_ok-put-in-None
returns-in_ok-put-in-None c =
    subst (λ v. Does (lowered_return (value_of v) c.args.next) (map command_tree c.args.out.now.items) (map command_tree c.put.new.out.items) (Ok c.args.next)) (sym c.in-None.is) (c.in_ok-put-in-None.ensures ∙ ap (λ k. (map command_tree c.args.out.now.items) ++ k ∷ []) (tree-Return None), refl, refl)

pub returns-in_err-x-in-Some : goal.returns-in_err-x-in-Some
returns-in_err-x-in-Some c =
    return_fails c.args.value.now c.in-Some.value c.deref.result.now c.in-Some.is c.deref.ensures c.args.next (map command_tree c.args.out.now.items) _ c.in_err-x-in-Some.field-0.0 c.from_residual-in_err-x-in-Some.result (err_from_is_err_and c.from_residual-in_err-x-in-Some.result c.from_residual-in_err-x-in-Some.ensures.1) c.in_err-x-in-Some.ensures

pub returns-in_err-put-in-Some : goal.returns-in_err-put-in-Some
returns-in_err-put-in-Some c =
    out_of_memory nothing itself (lowered_return (value_of c.args.value.now) c.args.next) (map command_tree c.args.out.now.items) _ c.from_residual-in_err-put-in-Some.result (err_from_is_err_and c.from_residual-in_err-put-in-Some.result c.from_residual-in_err-put-in-Some.ensures.1)

pub returns-in_ok-put-in-Some : goal.returns-in_ok-put-in-Some
returns-in_ok-put-in-Some c =
    return_returns c.args.value.now c.in-Some.value c.deref.result.now c.in-Some.is c.deref.ensures c.args.next (map command_tree c.args.out.now.items) _ c.in_ok-x-in-Some.x c.in_ok-x-in-Some.x.next _ c.in_ok-x-in-Some.ensures (c.in_ok-put-in-Some.ensures ∙ ap (λ k. map command_tree c.expression.new.out.items ++ k ∷ []) (tree-Return (Some c.in_ok-x-in-Some.x.operand))) refl
