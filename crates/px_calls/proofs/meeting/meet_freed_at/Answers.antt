use Rattle.std.proofs.lemmas.Result.{IfOk-weaker}
use Rattle.px_calls.specs.Calls.{calling_of}
use Rattle.px_calls.specs.Progress.{progress_at}
use Rattle.px_calls.proofs.MeetLemmas.{freed_cut, freed_met}
use Rattle.px_calls.proofs.meeting.meet_freed_at.Goals as goal

pub returns-in-Some : goal.returns-in-Some
returns-in-Some c =
    let a = c.args in
    IfOk-weaker c.cut.result _ _
    (λ r e f types. freed_cut (progress_at r a.state.now) a.state.now types a.entry.now a.progress a.required.now a.x c.in-Some.kind (calling_of a.calling) e c.in-Some.ensures.first f)
    c.cut.ensures

pub returns-in_ok-meet_freed-in-None : goal.returns-in_ok-meet_freed-in-None
returns-in_ok-meet_freed-in-None c =
    let a = c.args in
    IfOk-weaker c.stay.result _ _
    (λ r st f types. freed_met (progress_at r c.meet_freed.new.state) a.state.now c.meet_freed.new.state types a.entry.now a.progress a.required.now a.x _ (calling_of a.calling) st c.in_ok-meet_freed-in-None.ensures c.len-n.ensures c.in-None.ensures.first c.in-None.ensures.few_blocks f)
    c.stay.ensures
