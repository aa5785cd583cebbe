use Rattle.std.proofs.Common.{◌∙◌}
use Rattle.std.proofs.lemmas.Result.{IfOk-weaker}
use Rattle.px_steps.proofs.DivideLemmas.{zero_led}
use Rattle.px_steps.proofs.divide_acts.by_zero.Goals as goal

pub returns : goal.returns
returns c = IfOk-weaker c.fail.result _ _ (λ x e. e ∙ zero_led c.args.state.now c.args.site c.args.q.now c.keep_short.ensures) c.fail.ensures
