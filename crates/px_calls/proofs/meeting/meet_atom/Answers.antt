use Rattle.std.proofs.Common.{subst, sym, ap, ◌∙◌}
use Rattle.std.proofs.lemmas.Result.{IfOk-weaker}
use Rattle.std.specs.Prelude.{slice_get, option_map}
use Rattle.px_entry.specs.declared.atoms.Atom.{Atom}
use Rattle.px_calls.specs.Calls.{calling_of, IsTaking}
use Rattle.px_calls.specs.Progress.{progress_at}
use Rattle.px_calls.specs.Meeting.{taken_atom}
use Rattle.px_calls.proofs.MeetLemmas.{by_atom, no_atom}
use Rattle.px_calls.proofs.meeting.meet_atom.Goals as goal

pub returns-in-Some : goal.returns-in-Some
returns-in-Some c =
    let a = c.args in
    IfOk-weaker c.meet_place.result _ _
    (λ r e. by_atom (λ o. IsTaking a.state.now (calling_of a.calling) (taken_atom a.entry.now a.progress a.required.now a.n a.place o a.state.now) (progress_at r c.meet_place.new.state)) (slice_get a.state.now.atoms a.n) c.in-Some.x
    (c.in-Some.ensures ∙ ap (λ z. option_map (λ (b : Atom). b.place) (slice_get z a.n)) c.as_slice.ensures) e)
    c.meet_place.ensures

pub returns-in-None : goal.returns-in-None
returns-in-None c =
    let a = c.args in
    IfOk-weaker c.stop.result _ _
    (λ r e. subst (λ t. IsTaking a.state.now (calling_of a.calling) t (progress_at r a.state.now)) (sym (no_atom (slice_get a.state.now.atoms a.n) a.entry.now a.progress a.required.now a.n a.place a.state.now
    (c.in-None.ensures ∙ ap (λ z. option_map (λ (b : Atom). b.place) (slice_get z a.n)) c.as_slice.ensures))) e)
    c.stop.ensures
