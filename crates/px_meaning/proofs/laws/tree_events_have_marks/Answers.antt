use Rattle.std.proofs.Common.{None, subst}
use Rattle.px_meaning.specs.Events.{Event, mark_of}
use Rattle.px_meaning.specs.TreeCalls.{TreeCalls}
use Rattle.px_meaning.proofs.TreeEvents.{trace_has_events}
use Rattle.px_meaning.proofs.TreeSeen.{tree_calls_to}
use Rattle.px_meaning.proofs.laws.tree_events_have_marks.Goals as goal

pub returns : goal.returns
returns c = λ P f arguments heap t ending end. (
  λ h. trace_has_events None P f arguments heap t ending end h,
  λ (events, same, h). subst (λ u. TreeCalls P f arguments heap u ending end) same (tree_calls_to mark_of (λ (e : Event). e) None P f arguments heap events ending end h),
)
