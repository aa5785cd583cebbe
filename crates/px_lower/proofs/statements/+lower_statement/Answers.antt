use Rattle.std.proofs.Common.{◌∙◌, ◌++◌, ◌∷◌, [], map, Ok, Err, refl, sym, ap, ap₂, subst}
use Rattle.std.proofs.lemmas.Result.{err_from_is_err_and}
use Rattle.px_core.specs.CommandTree.{command_tree}
use Rattle.px_core.proofs.CommandEquations.{tree-If, tree-Loop, tree-Free}
use Rattle.px_syntax.specs.TypedTree.{free, choose, loop}
use Rattle.px_syntax.specs.TypedViews.{typed_expression, typed_condition, typed_statement}
use Rattle.px_lower.specs.Lowering.{lowered_statement}
use Rattle.px_lower.specs.Chains.{Does}
use Rattle.px_lower.proofs.Arms.{handed_on, out_of_memory, nothing, itself}
use Rattle.px_lower.proofs.SimpleArms.{test_of, choose_fails, choose_returns, loop_returns, free_fails, free_returns, statements_from, statement_more, statement_fails, statements_end}
use Rattle.px_lower.proofs.statements.+lower_statement.Goals as goal

pub statement-returns-in_err-x-in-Free : goal.statement-returns-in_err-x-in-Free
statement-returns-in_err-x-in-Free t c =
    free_fails (typed_statement c.args.s.now) (typed_expression c.deref-in-Free.result.now) c.args.next (map command_tree c.args.out.now.items) _ c.in-Free.block c.in-Free.site (ap typed_statement c.in-Free.is ∙ sym (ap (λ e. free (typed_expression e) c.in-Free.block c.in-Free.site) c.deref-in-Free.ensures)) c.in_err-x-in-Free.field-0.0 c.from_residual.result (err_from_is_err_and c.from_residual.result c.from_residual.ensures.1) c.in_err-x-in-Free.ensures

pub statement-returns-in_err-put-in-Free : goal.statement-returns-in_err-put-in-Free
statement-returns-in_err-put-in-Free t c =
    out_of_memory nothing itself (lowered_statement (typed_statement c.args.s.now) c.args.next) (map command_tree c.args.out.now.items) _ c.from_residual-in_err-put-in-Free.result (err_from_is_err_and c.from_residual-in_err-put-in-Free.result c.from_residual-in_err-put-in-Free.ensures.1)

pub statement-returns-in_ok-put-in-Free : goal.statement-returns-in_ok-put-in-Free
statement-returns-in_ok-put-in-Free t c =
    free_returns (typed_statement c.args.s.now) (typed_expression c.deref-in-Free.result.now) c.args.next (map command_tree c.args.out.now.items) _ c.in-Free.block c.in-Free.site (ap typed_statement c.in-Free.is ∙ sym (ap (λ e. free (typed_expression e) c.in-Free.block c.in-Free.site) c.deref-in-Free.ensures)) c.in_ok-x-in-Free.x c.in_ok-x-in-Free.x.next _ c.in_ok-x-in-Free.ensures (c.in_ok-put-in-Free.ensures ∙ ap (λ k. map command_tree c.expression.new.out.items ++ k ∷ []) (tree-Free c.in_ok-x-in-Free.x.operand c.in-Free.block c.in-Free.site)) refl

pub statement-returns-in_err-x-in-If : goal.statement-returns-in_err-x-in-If
statement-returns-in_err-x-in-If t c =
    choose_fails (typed_statement c.args.s.now) (typed_condition c.deref-in-If.result.now) (typed_statement c.in-If.first.value) (typed_statement c.in-If.second.value) c.args.next (map command_tree c.args.out.now.items) _ (ap typed_statement c.in-If.is ∙ sym (ap (λ a. choose (typed_condition a) (typed_statement c.in-If.first.value) (typed_statement c.in-If.second.value)) c.deref-in-If.ensures)) c.in_err-x-in-If.field-0.0 c.from_residual-in_err-x-in-If.result (err_from_is_err_and c.from_residual-in_err-x-in-If.result c.from_residual-in_err-x-in-If.ensures.1) c.in_err-x-in-If.ensures

pub statement-returns-in_ok-put-in-If : goal.statement-returns-in_ok-put-in-If
statement-returns-in_ok-put-in-If t c =
    choose_returns (typed_statement c.args.s.now) (typed_condition c.deref-in-If.result.now) (typed_statement c.deref-in-If-2.result.now) (typed_statement c.deref-in-If-3.result.now) c.args.next (map command_tree c.args.out.now.items) _ (ap typed_statement c.in-If.is ∙ sym (ap (λ d. choose (typed_condition c.deref-in-If.result.now) (typed_statement c.deref-in-If-2.result.now) (typed_statement d)) c.deref-in-If-3.ensures ∙ ap₂ (λ a b. choose (typed_condition a) (typed_statement b) (typed_statement c.in-If.second.value)) c.deref-in-If.ensures c.deref-in-If-2.ensures)) c.in_ok-x-in-If.x _ _ _ _ _ _ _ c.in_ok-next-in-If.next c.in_ok-next-in-If-2.next c.in_ok-x-in-If.ensures (ap (map command_tree) c.new-then.ensures.items) c.statement.ensures c.in_ok-next-in-If.ensures (ap (map command_tree) c.new-other.ensures.items) c.statement-in-If.ensures c.in_ok-next-in-If-2.ensures
    (c.in_ok-put-in-If.ensures ∙ ap (λ k. map command_tree c.condition.new.out.items ++ k ∷ []) (tree-If c.in_ok-x-in-If.x.slot c.statement.new.out c.statement-in-If.new.out))

pub statement-returns-in_ok-put-in-Loop : goal.statement-returns-in_ok-put-in-Loop
statement-returns-in_ok-put-in-Loop t c =
    loop_returns (typed_statement c.args.s.now) c.in-Loop.site (test_of c.in-Loop.c) (typed_statement c.deref-in-Loop.result.now) (typed_statement c.deref-in-Loop-2.result.now) c.args.next (ap typed_statement c.in-Loop.is ∙ sym (ap₂ (λ a b. loop c.in-Loop.site (test_of c.in-Loop.c) (typed_statement a) (typed_statement b)) c.deref-in-Loop.ensures c.deref-in-Loop-2.ensures)) (map command_tree c.args.out.now.items) _ _ _ _ _ _ _ _ _ _ c.in_ok-next-in-Loop.next c.in_ok-next-in-Loop-2.next c.in_ok-next-in-Loop-3.next (ap (map command_tree) c.new-front.ensures.items) c.head.ensures c.in_ok-next-in-Loop.ensures (ap (map command_tree) c.new-body.ensures.items) c.statement-in-Loop.ensures c.in_ok-next-in-Loop-2.ensures (ap (map command_tree) c.new-step.ensures.items) c.statement-in-Loop-2.ensures c.in_ok-next-in-Loop-3.ensures
    (c.in_ok-put-in-Loop.ensures ∙ ap (λ k. (map command_tree c.args.out.now.items) ++ k ∷ []) (tree-Loop c.in-Loop.site c.head.new.out c.statement-in-Loop.new.out c.statement-in-Loop-2.new.out))

pub statements-loop-s-init : goal.statements-loop-s-init
statements-loop-s-init t c =
    λ last r h. subst (λ xs. Does (statements_from c.args.all.now c.args.next) (map command_tree xs) last r) c.reserve.ensures.items h

pub statements-loop-s-preserved : goal.statements-loop-s-preserved
statements-loop-s-preserved t c =
    λ last r h. c.loop-s.invariant last r (statement_more c.args.all.now c.loop-s.s-index c.s-item.result c.loop-s-test.true c.s-item.is c.loop-s.last (map command_tree c.loop-s.out.items) (map command_tree c.statement.new.out.items) c.in_ok-last.last last r c.in_ok-last.ensures h)

pub statements-returns-in_err-last : goal.statements-returns-in_err-last
statements-returns-in_err-last t c =
    handed_on nothing itself (statements_from c.args.all.now c.args.next) (map command_tree c.args.out.now.items) _ c.from_residual-in_err-last.result c.in_err-last.field-0.0 (err_from_is_err_and c.from_residual-in_err-last.result c.from_residual-in_err-last.ensures.1)
    (c.loop-s.invariant (map command_tree c.statement.new.out.items) (Err c.in_err-last.field-0.0) (statement_fails c.args.all.now c.loop-s.s-index c.s-item.result c.loop-s-test.true c.s-item.is c.loop-s.last (map command_tree c.loop-s.out.items) (map command_tree c.statement.new.out.items) c.in_err-last.field-0.0 c.in_err-last.ensures))

pub statements-returns-in_err-reserve : goal.statements-returns-in_err-reserve
statements-returns-in_err-reserve t c =
    out_of_memory nothing itself (statements_from c.args.all.now c.args.next) (map command_tree c.args.out.now.items) _ c.from_residual.result (err_from_is_err_and c.from_residual.result c.from_residual.ensures.1)

pub statements-returns : goal.statements-returns
statements-returns t c =
    c.loop-s.invariant (map command_tree c.loop-s.out.items) (Ok c.loop-s.last) (statements_end c.args.all.now c.loop-s.s-index c.loop-s-test.false c.loop-s.last (map command_tree c.loop-s.out.items))
