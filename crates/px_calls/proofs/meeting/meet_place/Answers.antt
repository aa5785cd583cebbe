use Rattle.std.proofs.Common.{refl}
use Rattle.std.proofs.lemmas.Result.{IfOk-weaker}
use Rattle.px_calls.specs.Calls.{calling_of}
use Rattle.px_calls.specs.Progress.{progress_at}
use Rattle.px_calls.proofs.MeetLemmas.{place_cut, place_met}
use Rattle.px_calls.proofs.meeting.meet_place.Goals as goal

pub returns-in-Some : goal.returns-in-Some
returns-in-Some c =
    let a = c.args in
    IfOk-weaker c.cut.result _ _
    (λ r e b there q.
    place_cut (progress_at r a.state.now) a.state.now a.entry.now a.progress a.required.now a.n a.place b a.x c.unless_there-added.result c.count_added.result c.in-Some.kind (calling_of a.calling) e c.in-Some.ensures.first c.count_added.ensures c.unless_there-added.ensures q)
    c.cut.ensures

pub returns : goal.returns
returns c =
    let a = c.args in
    IfOk-weaker c.join.result _ _
    (λ r st b there q.
    place_met (progress_at r c.join.new.state) a.state.now _ a.entry.now a.progress a.required.now a.n a.place b a.x c.unless_there-added.result c.count_added.result (calling_of a.calling) (st b there) refl c.in-None.ensures.first
    c.count_added.ensures c.unless_there-added.ensures q c.requires.few)
    c.join.ensures
