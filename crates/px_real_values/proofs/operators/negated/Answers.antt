use Rattle.std.proofs.Common.{◌≡◌, ◌∙◌, true, sym, subst}
use Rattle.std.specs.Prelude.{is_some}
use Rattle.px_real_values.specs.Operands.{typed_as}
use Rattle.px_real_values.specs.Views.{operand_seen}
use Rattle.px_real_values.proofs.OperandLemmas.{given_as, negated_int}
use Rattle.px_real_values.proofs.operators.negated.Goals as goal

pub returns-then-is_typed : goal.returns-then-is_typed
returns-then-is_typed g c =
    given_as operand_seen c.negative.result _ _
    (negated_int (g.E.Environment.sees c.args.environment.now) c.args.site (operand_seen c.args.operand)
    (subst (λ t. is_some (typed_as (g.E.Environment.sees c.args.environment.now) t (operand_seen c.args.operand)) ≡ true) c.int.ensures (sym c.is_typed.ensures ∙ c.if-is_typed.true)))
    c.negative.ensures
