use Rattle.std.proofs.Common.{◌∙◌, ◌++◌, ◌∷◌, [], map, Ok, refl, sym, ap, subst}
use Rattle.std.proofs.lemmas.Result.{err_from_is_err_and}
use Rattle.px_core.specs.CommandTree.{command_tree}
use Rattle.px_core.proofs.CommandEquations.{tree-Unset}
use Rattle.px_lower.specs.Lowering.{lowered_declaration}
use Rattle.px_lower.specs.Chains.{Does}
use Rattle.px_lower.proofs.Arms.{out_of_memory, nothing, itself}
use Rattle.px_lower.proofs.SimpleArms.{value_of, declaration_fails, declaration_returns}
use Rattle.px_lower.proofs.simple.declaration.Goals as goal

pub returns-in_err-put : goal.returns-in_err-put
returns-in_err-put c =
    out_of_memory nothing itself (lowered_declaration c.args.local (value_of c.args.value.now) c.args.next) (map command_tree c.args.out.now.items) _ c.from_residual.result (err_from_is_err_and c.from_residual.result c.from_residual.ensures.1)

pub returns-in-None : goal.returns-in-None
returns-in-None c =
    subst (λ v. Does (lowered_declaration c.args.local (value_of v) c.args.next) (map command_tree c.args.out.now.items) (map command_tree c.put.new.out.items) (Ok c.args.next)) (sym c.in-None.is) (c.in_ok-put.ensures ∙ ap (λ k. (map command_tree c.args.out.now.items) ++ k ∷ []) (tree-Unset c.args.local), refl, refl)

pub returns-in_err-x-in-Some : goal.returns-in_err-x-in-Some
returns-in_err-x-in-Some c =
    declaration_fails c.args.value.now c.in-Some.value c.deref.result.now c.in-Some.is c.deref.ensures c.args.next (map command_tree c.args.out.now.items) _ c.args.local (map command_tree c.put.new.out.items) (c.in_ok-put.ensures ∙ ap (λ k. (map command_tree c.args.out.now.items) ++ k ∷ []) (tree-Unset c.args.local)) c.in_err-x-in-Some.field-0.0 c.from_residual-in_err-x-in-Some.result (err_from_is_err_and c.from_residual-in_err-x-in-Some.result c.from_residual-in_err-x-in-Some.ensures.1) c.in_err-x-in-Some.ensures

pub returns-in_err-put-in-Some : goal.returns-in_err-put-in-Some
returns-in_err-put-in-Some c =
    out_of_memory nothing itself (lowered_declaration c.args.local (value_of c.args.value.now) c.args.next) (map command_tree c.args.out.now.items) _ c.from_residual-in_err-put-in-Some.result (err_from_is_err_and c.from_residual-in_err-put-in-Some.result c.from_residual-in_err-put-in-Some.ensures.1)

pub returns-in_ok-put-in-Some : goal.returns-in_ok-put-in-Some
returns-in_ok-put-in-Some c =
    declaration_returns c.args.value.now c.in-Some.value c.deref.result.now c.in-Some.is c.deref.ensures c.args.next (map command_tree c.args.out.now.items) _ c.args.local (map command_tree c.put.new.out.items) (c.in_ok-put.ensures ∙ ap (λ k. (map command_tree c.args.out.now.items) ++ k ∷ []) (tree-Unset c.args.local)) c.in_ok-x-in-Some.x c.in_ok-x-in-Some.x.next _ c.in_ok-x-in-Some.ensures (c.in_ok-put-in-Some.ensures ∙ ap (λ k. map command_tree c.expression.new.out.items ++ k ∷ []) c.copy_of.ensures) refl
