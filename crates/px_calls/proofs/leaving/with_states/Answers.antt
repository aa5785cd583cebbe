use Rattle.std.proofs.Common.{drop, sym, ◌∙◌}
use Rattle.std.proofs.lemmas.List.{nil_from_length}
use Rattle.px_calls.proofs.LeaveLemmas.{all_updated}
use Rattle.px_calls.proofs.leaving.with_states.Goals as goal

pub returns : goal.returns
returns c = all_updated (drop c.loop-state.i c.args.used.now) _ c.loop-state.all _ (nil_from_length _ (sym c.loop-state.invariant.0 ∙ c.in-None.ensures.steps.0)) c.loop-state.invariant.1
