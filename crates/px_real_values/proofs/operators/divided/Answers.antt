use Rattle.std.proofs.Common.{◌≡◌, ◌∙◌, ◌&&◌, true, false, sym, subst}
use Rattle.std.specs.Prelude.{is_some}
use Rattle.px_real_values.specs.Operands.{typed_as}
use Rattle.px_real_values.specs.Views.{operand_seen}
use Rattle.px_real_values.proofs.OperandLemmas.{given_as, divided_ints, divided_others}
use Rattle.px_real_values.proofs.operators.divided.Goals as goal

pub returns-then-are_typed : goal.returns-then-are_typed
returns-then-are_typed g c =
    given_as operand_seen c.arithmetic.result _ _
    (divided_ints (g.E.Environment.sees c.args.environment.now) c.args.site (operand_seen c.args.left) (operand_seen c.args.right)
    (subst (λ t. (is_some (typed_as (g.E.Environment.sees c.args.environment.now) t (operand_seen c.args.left)) && is_some (typed_as (g.E.Environment.sees c.args.environment.now) t (operand_seen c.args.right))) ≡ true) c.int.ensures (sym c.are_typed.ensures ∙ c.if-are_typed.true)) c.args.operation c.args.operator)
    c.arithmetic.ensures

pub returns : goal.returns
returns g c =
    given_as operand_seen c.stopped_both.result _ _
    (divided_others (g.E.Environment.sees c.args.environment.now) c.args.site (operand_seen c.args.left) (operand_seen c.args.right)
    (subst (λ t. (is_some (typed_as (g.E.Environment.sees c.args.environment.now) t (operand_seen c.args.left)) && is_some (typed_as (g.E.Environment.sees c.args.environment.now) t (operand_seen c.args.right))) ≡ false) c.int.ensures (sym c.are_typed.ensures ∙ c.if-are_typed.false)) c.args.operation c.args.operator)
    c.stopped_both.ensures
