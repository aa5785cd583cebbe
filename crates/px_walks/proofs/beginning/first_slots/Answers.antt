use Rattle.std.proofs.Common.{◌∙◌, ap, arith}
use Rattle.px_walks.specs.Starts.{first_content}
use Rattle.px_walks.proofs.StartLemmas.{next_slot}
use Rattle.px_walks.proofs.beginning.first_slots.Goals as goal

pub loop-slot-preserved : goal.loop-slot-preserved
loop-slot-preserved c = c.in_ok-push.ensures.added ∙ next_slot c.args.body.now.parameters c.args.body.now.slots c.loop-slot.slot _ c.loop-slot.slots _ (omega arith) (omega arith) c.loop-slot.invariant
    (c.in_ok-first_content.ensures ∙ ap (λ z. first_content z c.loop-slot.slot) c.as_slice.ensures)
