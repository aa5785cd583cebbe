use Rattle.std.proofs.Common.{ℕ, ◌+◌, ◌≤◌, length}
use Rattle.px_pool.specs.Starts.{HasFrames}
use Rattle.px_pool.proofs.whole_frames.whole_frames.Given as goal

abbrev pub invariant-loop-behind : goal.invariant-loop-behind
invariant-loop-behind l = record { all : (n : ℕ) → HasFrames l.rest n → HasFrames l.bytes (l.count + n); few : l.count + length l.rest ≤ length l.bytes }

abbrev pub decreases-loop-behind : goal.decreases-loop-behind
decreases-loop-behind l = length l.rest
