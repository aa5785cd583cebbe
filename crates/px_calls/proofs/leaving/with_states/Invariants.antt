use Rattle.std.proofs.Common.{◌≡◌, length, drop}
use Rattle.std.specs.Vec.Iter.{into_iter_items, into_iter_len}
use Rattle.px_calls.specs.Leaving.{update_states}
use Rattle.px_calls.proofs.leaving.with_states.Given as goal

abbrev pub invariant-loop-state : goal.invariant-loop-state
invariant-loop-state l =
    (into_iter_len l.state-iterator ≡ length (into_iter_items l.state-iterator))
    × (update_states (drop l.i l.used) (into_iter_items l.state-iterator) l.all ≡ update_states l.used l.fn.states.items l.fn.atoms)
