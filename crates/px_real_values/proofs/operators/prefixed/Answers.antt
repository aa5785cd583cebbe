use Rattle.std.proofs.Common.{◌∙◌, sym, ap}
use Rattle.px_real_values.specs.Operators.{taking}
use Rattle.px_real_values.specs.Turns.{goes_on}
use Rattle.px_real_values.specs.Views.{operand_seen}
use Rattle.px_real_values.proofs.OperandLemmas.{given_as, prefixed_else}
use Rattle.px_real_values.proofs.operators.prefixed.Goals as goal

pub returns-in-GoesOn : goal.returns-in-GoesOn
returns-in-GoesOn g c =
    let env = g.E.Environment.sees c.args.environment.now in
    let n = c.in_default in
    given_as operand_seen c.taking.result _ _
    (sym (c.in_ok-stopped-in_default.ensures (taking env c.args.operator c.args.site) ∙ ap (goes_on (taking env c.args.operator c.args.site)) c.in-GoesOn.is)
    ∙ prefixed_else env c.args.operator c.args.site (operand_seen c.args.operand) n.not-Address n.not-Increment n.not-Decrement n.not-Extension)
    c.taking.ensures
