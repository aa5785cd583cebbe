use Rattle.std.proofs.Common.{refl, ◌∙◌}
use Rattle.std.proofs.lemmas.Result.{IfOk-weaker}
use Rattle.px_callgraph.specs.States.{begun, set_slot}
use Rattle.px_steps.proofs.PathLimitLemmas.{cut_at}
use Rattle.px_steps.proofs.LongLemmas.{long_alone, long_grows}
use Rattle.px_steps.proofs.words.cut_assign.Goals as goal

pub returns : goal.returns
returns c =
    let s = c.args.state.now in
    IfOk-weaker c.cut.result _ _ (λ x q to d terms l.
    let u = set_slot to d (begun s) in
    q ∙ cut_at s long_alone c.limit_of_long-passed.result u terms c.limit_of_long-passed.ensures (long_grows s u terms refl refl refl refl refl l)) c.cut.ensures
