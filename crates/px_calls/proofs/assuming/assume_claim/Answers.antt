use Rattle.std.proofs.lemmas.Result.{on_ok_weaker}
use Rattle.px_calls.proofs.ResultLemmas.{all_ok}
use Rattle.px_calls.proofs.AssumeLemmas.{surely_step, never_step, claims_step, long_step}
use Rattle.px_calls.proofs.assuming.assume_claim.Goals as goal

pub returns-in-Surely-clause-assumed : goal.returns-in-Surely-clause-assumed
returns-in-Surely-clause-assumed c = λ stood long claim k h. surely_step c.args.vars.now c.args.pure.now stood long c.args.assumed.now claim c.args.claimed c.in-Surely.is k h

pub returns-in-Never-clause-assumed : goal.returns-in-Never-clause-assumed
returns-in-Never-clause-assumed c = λ stood long claim k h. never_step c.args.vars.now c.args.pure.now stood long c.args.assumed.now claim c.args.claimed c.in-Never.is k h

pub returns-in-Claims-clause-assumed : goal.returns-in-Claims-clause-assumed
returns-in-Claims-clause-assumed c =
    let a = c.args in
    on_ok_weaker c.assume_short.result (λ p stood long claim k h. claims_step a.vars.now a.pure.now stood long c.assume_short.new.assumed claim a.claimed c.in-Claims.conjunct c.in-Claims.is k (λ e. p stood long e h)) c.assume_short.ensures.assumed

pub returns-in-Long-clause-assumed : goal.returns-in-Long-clause-assumed
returns-in-Long-clause-assumed c =
    let a = c.args in
    all_ok c.note_long.result (λ n l d stood long claim k h. long_step a.vars.now a.pure.now stood long a.assumed.now c.note_long.new.assumed claim a.claimed c.in-Long.is k n l d h) c.note_long.ensures.count c.note_long.ensures.long c.note_long.ensures.added
