use Rattle.std.proofs.Common.{◌≡◌, ◌≢◌, map, subst, length, arith}
use Rattle.std.specs.Prelude.{IfOk}
use Rattle.px_real_values.specs.Operators.{stopped_at}
use Rattle.px_real_values.specs.Calls.{all_parts}
use Rattle.px_real_values.specs.Views.{operand_seen, given_seen}
use Rattle.px_real_values.proofs.CallLemmas.{expected_first, expected_else}
use Rattle.px_real_values.proofs.OperandLemmas.{given_as}
use Rattle.px_real_values.proofs.calls.expect_call.Goals as goal

pub returns-then-count-eq2 : goal.returns-then-count-eq2
returns-then-count-eq2 g c =
    let env = g.E.Environment.sees c.args.environment.now in
    let xs = c.args.given.items in
    let two : length xs ≡ 2 = omega (arith, c.args.given.ok.0) in
    expected_first env c.args.at xs c.remove-first.result two c.remove-first.ensures.value

pub returns-else-count-eq2 : goal.returns-else-count-eq2
returns-else-count-eq2 g c =
    let env = g.E.Environment.sees c.args.environment.now in
    let xs = c.args.given.items in
    let others : length xs ≢ 2 = λ e. omega (arith, c.args.given.ok.0) in
    given_as operand_seen c.not_called.result _ _ (expected_else env c.args.at xs others)
    (subst (λ w. IfOk c.not_called.result (λ a. operand_seen a ≡ stopped_at env w c.args.at (all_parts env (map given_seen xs)))) c.as_slice.ensures c.not_called.ensures)
