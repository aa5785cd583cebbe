use Rattle.std.proofs.Common.{Some, refl}
use Rattle.std.proofs.lemmas.Result.{IfOk-weaker}
use Rattle.px_callgraph.specs.Calls.{unfit}
use Rattle.px_callgraph.specs.declared.outcomes.StepOutcome.TheVariants.{Next}
use Rattle.px_calls.specs.declared.call.Stage.TheVariants.{Unfit}
use Rattle.px_calls.specs.Calls.{calling_of}
use Rattle.px_calls.specs.Progress.{progress_at}
use Rattle.px_calls.proofs.MeetLemmas.{nothing, same_grows, cut_taken, staying_taken}
use Rattle.px_calls.proofs.meeting.stop.Goals as goal

pub returns-in-Some : goal.returns-in-Some
returns-in-Some c =
    let s = c.args.state.now in
    IfOk-weaker c.cut.result _ _ (λ r e. cut_taken (progress_at r s) s nothing c.in-Some.kind (record { state = s; stage = unfit }) (calling_of c.args.calling) e c.in-Some.ensures.first (same_grows s)) c.cut.ensures

pub returns-in-None : goal.returns-in-None
returns-in-None c =
    let s = c.args.state.now in
    staying_taken (Next (record { state = s; call = Some (record { calling = c.args.calling; stage = Unfit }) })) s nothing (record { state = s; stage = unfit }) (calling_of c.args.calling) ((λ k. refl), (λ f. f)) c.in-None.ensures.first (same_grows s) c.requires.few
