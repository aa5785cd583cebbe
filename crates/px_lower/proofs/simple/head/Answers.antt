use Rattle.std.proofs.Common.{◌∙◌, ◌++◌, ◌∷◌, [], map, Ok, refl, sym, ap, ap₂, subst, append-nil}
use Rattle.std.proofs.lemmas.Result.{err_from_is_err_and}
use Rattle.px_core.specs.CommandTree.{command_tree}
use Rattle.px_core.specs.CommandTree.{choose, commands_of}
use Rattle.px_core.proofs.CommandEquations.{tree-Leave, tree-If}
use Rattle.px_lower.specs.Lowering.{lowered_head}
use Rattle.px_lower.specs.Chains.{Does}
use Rattle.px_lower.proofs.Arms.{out_of_memory, nothing, itself}
use Rattle.px_lower.proofs.SimpleArms.{test_of, head_fails, head_returns}
use Rattle.px_lower.proofs.simple.head.Goals as goal

pub returns-in-None : goal.returns-in-None
returns-in-None c =
    subst (λ v. Does (lowered_head (test_of v) c.args.next) (map command_tree c.args.out.now.items) (map command_tree c.args.out.now.items) (Ok c.args.next)) (sym c.in-None.is) (sym (append-nil (map command_tree c.args.out.now.items)), refl, refl)

pub returns-in_err-x-in-Some : goal.returns-in_err-x-in-Some
returns-in_err-x-in-Some c =
    head_fails c.args.c.now c.in-Some.c c.deref.result.now c.in-Some.is c.deref.ensures c.args.next (map command_tree c.args.out.now.items) _ c.in_err-x-in-Some.field-0.0 c.from_residual.result (err_from_is_err_and c.from_residual.result c.from_residual.ensures.1) c.in_err-x-in-Some.ensures

pub returns-in_err-put-in-Some : goal.returns-in_err-put-in-Some
returns-in_err-put-in-Some c =
    out_of_memory nothing itself (lowered_head (test_of c.args.c.now) c.args.next) (map command_tree c.args.out.now.items) _ c.from_residual-in_err-put-in-Some.result (err_from_is_err_and c.from_residual-in_err-put-in-Some.result c.from_residual-in_err-put-in-Some.ensures.1)

pub returns-in_err-put-in-Some-2 : goal.returns-in_err-put-in-Some-2
returns-in_err-put-in-Some-2 c =
    out_of_memory nothing itself (lowered_head (test_of c.args.c.now) c.args.next) (map command_tree c.args.out.now.items) _ c.from_residual-in_err-put-in-Some-2.result (err_from_is_err_and c.from_residual-in_err-put-in-Some-2.result c.from_residual-in_err-put-in-Some-2.ensures.1)

pub returns-in_ok-put-in-Some-2 : goal.returns-in_ok-put-in-Some-2
returns-in_ok-put-in-Some-2 c =
    head_returns c.args.c.now c.in-Some.c c.deref.result.now c.in-Some.is c.deref.ensures c.args.next (map command_tree c.args.out.now.items) _ c.in_ok-x-in-Some.x c.in_ok-x-in-Some.x.next _ c.in_ok-x-in-Some.ensures
    (c.in_ok-put-in-Some-2.ensures ∙ ap (λ k. map command_tree c.condition.new.out.items ++ k ∷ [])
    (tree-If c.in_ok-x-in-Some.x.slot c.new.result c.put.new.out ∙ ap₂ (λ a b. choose c.in_ok-x-in-Some.x.slot (commands_of a) (commands_of b)) (ap (map command_tree) c.new.ensures.items)
    (c.in_ok-put-in-Some.ensures ∙ ap₂ (λ cs k. cs ++ k ∷ []) (ap (map command_tree) c.new-other.ensures.items) tree-Leave))) refl
