use Rattle.std.proofs.Common.{subst, sym, ap}
use Rattle.std.proofs.lemmas.Result.{IfOk-weaker}
use Rattle.px_entry.specs.Cases.{is_freed}
use Rattle.px_calls.specs.Calls.{calling_of, IsTaking}
use Rattle.px_calls.specs.Progress.{progress_at}
use Rattle.px_calls.specs.Meeting.{taken_missing}
use Rattle.px_calls.proofs.MeetLemmas.{null_taken}
use Rattle.px_calls.proofs.meeting.meet_missing.Goals as goal

pub returns-in-Null : goal.returns-in-Null
returns-in-Null c =
    let a = c.args in
    IfOk-weaker c.stop.result _ _
    (λ r e. subst (λ q. IsTaking a.state.now (calling_of a.calling) (taken_missing a.types.now a.entry.now a.progress a.required.now q a.state.now) (progress_at r a.state.now)) (sym c.in-Null.is)
    (subst (λ t. IsTaking a.state.now (calling_of a.calling) t (progress_at r a.state.now)) (sym (null_taken a.types.now a.entry.now a.progress a.required.now a.state.now)) e))
    c.stop.ensures

pub returns-in-Freed : goal.returns-in-Freed
returns-in-Freed c =
    let a = c.args in
    IfOk-weaker c.meet_freed_at.result _ _
    (λ r e. subst (λ q. IsTaking a.state.now (calling_of a.calling) (taken_missing a.types.now a.entry.now a.progress a.required.now q a.state.now) (progress_at r c.meet_freed_at.new.state)) (sym c.in-Var.is) (e (ap is_freed c.in-Freed.is) a.types.now))
    c.meet_freed_at.ensures
