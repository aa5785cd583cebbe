use Rattle.std.proofs.Common.{ℕ, ◌<◌}
use Rattle.px_replay.specs.Following.{IsTaken}
use Rattle.px_replay.specs.Replays.{heap_map}
use Rattle.px_replay.proofs.heap.Heap.least_free.Given as goal

abbrev pub invariant-loop-number : goal.invariant-loop-number
invariant-loop-number l = (m : ℕ) → m < l.number → IsTaken (heap_map l.self) m
