use Rattle.std.proofs.Common.{◌≡◌, ◌∙◌, sym, ap, subst, map, Some, rules}
use Rattle.px_syntax.specs.ExpressionTree.{expression_tree, expressions_of}
use Rattle.px_syntax.specs.StatementTree.{a_call}
use Rattle.px_syntax.specs.TypedTree as T
use Rattle.px_syntax.specs.TypedViews.{typed_argument}
use Rattle.px_syntax.proofs.ExpressionEquations.{tree-Call}
use Rattle.px_bodies.specs.Types.{given}
use Rattle.px_bodies.specs.Environment.{environment_of, proc_id}
use Rattle.px_bodies.specs.Expressions.{typed_arguments, callable}
use Rattle.px_bodies.specs.Operands.{wanted_of}
use Rattle.px_bodies.specs.Outcomes.{Refuses}
use Rattle.px_bodies.specs.Statements.{typed_simple}
use Rattle.px_bodies.proofs.ArgumentLemmas.{run-typed}
use Rattle.px_bodies.proofs.ChainLemmas.{fails-along}
use Rattle.px_bodies.proofs.simple.call.Goals as goal

pub returns-in_err-arguments-in-Call : goal.returns-in_err-arguments-in-Call
returns-in_err-arguments-in-Call c =
    let env = environment_of c.args.environment.now in
    let visible = c.args.locals.now.visible in
    let k = c.in-Call in
    let w = wanted_of c.in_ok-wanted-in-Call.wanted in
    let r = c.in_err-arguments-in-Call.field-0.0 in
    let es = expressions_of (map expression_tree k.given.items) in
    let untyped : Refuses r (typed_arguments env visible w es) = search rules in
    let callee : callable env visible k.function ≡ Some w = search rules in
    let is : typed_simple env visible (a_call (expression_tree c.args.call.now)) ≡ given (typed_arguments env visible w es) (λ xs. Some (T.run_call (proc_id env k.function) (T.arguments_of xs) k.site)) =
    ap (λ e. typed_simple env visible (a_call (expression_tree e))) k.is ∙ ap (λ e. typed_simple env visible (a_call e)) (tree-Call k.function k.site k.given)
    ∙ run-typed env visible k.function k.site es w callee in
    let whole : Refuses r (typed_simple env visible (a_call (expression_tree c.args.call.now))) =
    subst (Refuses r) (sym is) (fails-along r _ _ (ap (λ o. given o (λ xs. Some (T.run_call (proc_id env k.function) (T.arguments_of xs) k.site)))) untyped) in
    search rules

pub returns-in_ok-arguments-in-Call : goal.returns-in_ok-arguments-in-Call
returns-in_ok-arguments-in-Call c =
    let env = environment_of c.args.environment.now in
    let visible = c.args.locals.now.visible in
    let k = c.in-Call in
    let w = wanted_of c.in_ok-wanted-in-Call.wanted in
    let es = expressions_of (map expression_tree k.given.items) in
    let xs = map typed_argument c.in_ok-arguments-in-Call.arguments.items in
    let arguments_are : typed_arguments env visible w es ≡ Some xs = search rules in
    let callee : callable env visible k.function ≡ Some w = search rules in
    ap (λ e. typed_simple env visible (a_call (expression_tree e))) k.is ∙ ap (λ e. typed_simple env visible (a_call e)) (tree-Call k.function k.site k.given)
    ∙ run-typed env visible k.function k.site es w callee
    ∙ ap (λ o. given o (λ xs. Some (T.run_call (proc_id env k.function) (T.arguments_of xs) k.site))) arguments_are
    ∙ ap (λ p. Some (T.run_call p (T.arguments_of xs) k.site)) (sym c.proc_id.ensures)
