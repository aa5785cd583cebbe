use Rattle.std.proofs.Common.{pos, refl, ◌∙◌}
use Rattle.std.proofs.lemmas.Result.{IfOk-weaker}
use Rattle.px_terms.specs.declared.conjuncts.Content.TheVariants.{Word}
use Rattle.px_callgraph.specs.States.{begun, marked, assumed, set_slot, number}
use Rattle.px_callgraph.specs.Operations.{conjunct_terms}
use Rattle.px_steps.proofs.PathLimitLemmas.{cut_at}
use Rattle.px_steps.proofs.LongLemmas.{long_test, long_test_grows}
use Rattle.px_steps.proofs.test_acts.cut_test.Goals as goal

pub returns : goal.returns
returns c =
    let s = c.args.state.now in
    IfOk-weaker c.cut.result _ _ (λ x q to outcome k site d l.
    let u = set_slot to (Word (number (pos outcome))) (assumed d (marked k site (begun s))) in
    q ∙ cut_at s long_test c.limit_of_long-passed.result u (conjunct_terms d) c.limit_of_long-passed.ensures (long_test_grows s u _ d refl refl refl refl refl l)) c.cut.ensures
