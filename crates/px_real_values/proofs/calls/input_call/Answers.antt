use Rattle.std.proofs.Common.{◌≡◌, ◌≢◌, ◌∙◌, map, sym, ap, subst, length}
use Rattle.std.specs.Prelude.{IfOk}
use Rattle.px_real_values.specs.Operators.{stopped_at}
use Rattle.px_real_values.specs.Calls.{all_parts}
use Rattle.std.proofs.lemmas.Bool.{eqb-true, eqb-false}
use Rattle.px_syntax.specs.TypedTree as T
use Rattle.px_real_values.specs.Operands.{of_type}
use Rattle.px_real_values.specs.Views.{operand_seen, given_seen}
use Rattle.px_real_values.proofs.CallLemmas.{input_alone, input_with_some}
use Rattle.px_real_values.proofs.OperandLemmas.{given_as}
use Rattle.px_real_values.proofs.calls.input_call.Goals as goal

pub returns-then-is_empty : goal.returns-then-is_empty
returns-then-is_empty g c =
    let env = g.E.Environment.sees c.args.environment.now in
    let xs = c.args.given.items in
    ap (λ t. of_type t c.args.at (T.get_char c.args.at)) c.int.ensures ∙ input_alone env c.args.at xs (sym c.args.given.ok.0 ∙ eqb-true _ 0 (sym c.if-is_empty.ensures))

pub returns : goal.returns
returns g c =
    let env = g.E.Environment.sees c.args.environment.now in
    let xs = c.args.given.items in
    let some : length xs ≢ 0 = λ e. eqb-false _ 0 (sym c.is_empty.ensures ∙ c.if-is_empty.false) (c.args.given.ok.0 ∙ e) in
    given_as operand_seen c.not_called.result _ _ (input_with_some env c.args.at xs some)
    (subst (λ w. IfOk c.not_called.result (λ a. operand_seen a ≡ stopped_at env w c.args.at (all_parts env (map given_seen xs)))) c.as_slice.ensures c.not_called.ensures)
