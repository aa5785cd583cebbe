use Rattle.std.proofs.Common.{ℕ, ◌<◌, ◌≤◌, get_or}
use Rattle.std.specs.Prelude.{Contains}
use Rattle.px_plain.proofs.words.least_missing.Given as goal

abbrev pub invariant-loop-x : goal.invariant-loop-x
invariant-loop-x l = record {
  few : l.least ≤ l.x-index;
  below : (i : ℕ) → i < l.x-index → get_or l.rising i 0 < l.least;
  all : (k : ℕ) → k < l.least → Contains l.rising k;
}
