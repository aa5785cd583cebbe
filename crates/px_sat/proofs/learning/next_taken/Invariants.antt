use Rattle.std.proofs.Common.{◌≢◌, ℕ, ◌-◌, ◌<◌, ◌≤◌, None}
use Rattle.px_sat.specs.Searches.{reason_at}
use Rattle.px_sat.proofs.learning.next_taken.Given as goal

abbrev pub invariant-loop-place : goal.invariant-loop-place
invariant-loop-place l = record {
  later : l.low ≤ l.place;
  inside : l.place ≤ l.start;
  none : (q : ℕ) → l.low ≤ q → q < l.place → reason_at l.trail q ≢ None;
}

abbrev pub decreases-loop-place : goal.decreases-loop-place
decreases-loop-place l = l.start - l.place
