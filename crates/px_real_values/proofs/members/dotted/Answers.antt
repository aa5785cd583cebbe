use Rattle.std.proofs.Common.{◌∙◌, sym, ap}
use Rattle.px_real_values.specs.Operators.{dotted}
use Rattle.px_real_values.specs.Views.{operand_seen}
use Rattle.px_real_values.proofs.OperandLemmas.{given_as, member_outside, dotted_else}
use Rattle.px_real_values.proofs.members.dotted.Goals as goal

pub returns-in-Member : goal.returns-in-Member
returns-in-Member g c =
    let env = g.E.Environment.sees c.args.environment.now in
    given_as operand_seen c.inner_member.result _ _
    (sym (ap (λ o. dotted env c.args.site c.as_slice-field.result.now (operand_seen o)) c.in-Member.is) ∙ ap (λ n. dotted env c.args.site n (operand_seen c.args.operand)) c.as_slice-field.ensures)
    c.inner_member.ensures

pub returns-in_default : goal.returns-in_default
returns-in_default g c =
    let env = g.E.Environment.sees c.args.environment.now in
    let d = c.in_default in
    given_as operand_seen c.outside_member.result _ _
    (ap (λ n. member_outside env c.args.site n (operand_seen c.args.operand)) c.as_slice-field.ensures
    ∙ dotted_else env c.args.site c.args.name.now c.args.operand d.not-Member d.not-Struct d.not-Object d.not-Stopped)
    c.outside_member.ensures
