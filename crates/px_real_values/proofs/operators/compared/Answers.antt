use Rattle.std.proofs.Common.{◌∙◌, sym}
use Rattle.px_real_values.specs.Views.{operand_seen}
use Rattle.px_real_values.proofs.OperandLemmas.{given_as, compared_values, compared_others}
use Rattle.px_real_values.proofs.operators.compared.Goals as goal

pub returns-then-are_typed : goal.returns-then-are_typed
returns-then-are_typed g c =
    given_as operand_seen c.comparison.result _ _
    (compared_values (g.E.Environment.sees c.args.environment.now) c.args.site (operand_seen c.args.left) (operand_seen c.args.right) c.args.kind c.args.relation c.args.operator (sym c.are_typed.ensures ∙ c.if-are_typed.true))
    c.comparison.ensures

pub returns : goal.returns
returns g c =
    given_as operand_seen c.outside_both.result _ _
    (compared_others (g.E.Environment.sees c.args.environment.now) c.args.site (operand_seen c.args.left) (operand_seen c.args.right) c.args.kind c.args.relation c.args.operator (sym c.are_typed.ensures ∙ c.if-are_typed.false))
    c.outside_both.ensures
