use Rattle.std.proofs.Common.{◌≡◌, ℕ, ◌+◌, ◌-◌, ◌≤◌, length}
use Rattle.std.specs.Prelude.{slice_index}
use Rattle.px_chains.proofs.chains.make_room.Given as goal

abbrev pub invariant-loop-ends : goal.invariant-loop-ends
invariant-loop-ends l = record {
  grows : length l.initial.ends.items ≤ length l.ends.items;
  same : (k : ℕ) → slice_index l.ends.items k ≡ slice_index l.initial.ends.items k;
}

abbrev pub decreases-loop-ends : goal.decreases-loop-ends
decreases-loop-ends l = l.key + 1 - length l.ends.items
