use Rattle.std.proofs.Common.{◌∙◌, sym, ap}
use Rattle.px_real_reading.specs.Trees.{suffix_tree, suffixed}
use Rattle.px_real_reading.proofs.TreeEquations.{suffix-Call}
use Rattle.px_real_values.specs.Values.{valued}
use Rattle.px_real_effects.specs.Effects.{free_at, called_by, performed}
use Rattle.px_real_values.proofs.ArgumentLemmas.{given_of}
use Rattle.px_real_effects.proofs.StatementLemmas.{put_as}
use Rattle.px_real_effects.proofs.effects.put_suffixed.Goals as goal

pub returns-in-Call : goal.returns-in-Call
returns-in-Call g c = λ e h.
    let env = g.E.Environment.sees c.args.environment.now in
    let all = g.E.Environment.tokens c.args.environment.now in
    let last = suffix_tree all c.args.last.now in
    let is = ap (suffix_tree all) c.in-Call.is ∙ suffix-Call all c.in-Call.site c.in-Call.arguments in
    put_as c.put_call.result _ _ _ _
    (ap (λ z. called_by env (free_at z) (given_of env all c.deref.result.now) (valued env (suffixed e last))) h
    ∙ ap (λ z. called_by env (free_at (valued env e)) (given_of env all z) (valued env (suffixed e last))) c.deref.ensures.value
    ∙ ap (λ z. called_by env (free_at (valued env e)) (given_of env all c.in-Call.arguments.items) (valued env (suffixed e z))) is
    ∙ sym (ap (λ z. performed env (suffixed e z)) is))
    (c.put_call.ensures e h)
