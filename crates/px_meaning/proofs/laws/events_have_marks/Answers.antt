use Rattle.std.proofs.Common.{◌≡◌, None, map, subst, sym}
use Rattle.px_meaning.specs.Events.{Event, mark_of}
use Rattle.px_meaning.specs.CoreCalls.{CoreCalls}
use Rattle.px_meaning.proofs.Seen.{calls_across, to_marks, to_events}
use Rattle.px_meaning.proofs.laws.events_have_marks.Goals as goal

pub returns : goal.returns
returns c = λ P f arguments heap t ending end. (
  λ h. calls_across mark_of (λ (e : Event). e) (λ t events. map mark_of events ≡ t) to_events None P f arguments heap t ending end h,
  λ (events, same, h).
      let (t', e, h') = calls_across (λ (e : Event). e) mark_of (λ events t. map mark_of events ≡ t) to_marks None P f arguments heap events ending end h in
      subst (λ u. CoreCalls P f arguments heap u ending end) same (subst (λ u. CoreCalls P f arguments heap u ending end) (sym e) h'),
)
