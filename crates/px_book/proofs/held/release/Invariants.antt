use Rattle.std.proofs.Common.{◌≡◌, ◌≢◌, ◌<◌, ℕ, get_or}
use Rattle.px_book.proofs.ReadyLemmas.{zero_proc}
use Rattle.px_book.proofs.held.release.Given as goal

abbrev pub invariant-loop-place : goal.invariant-loop-place
invariant-loop-place l = record {
  same : l.held ≡ l.fn.held;
  none : (k : ℕ) → k < l.place → get_or l.held.items k zero_proc ≢ l.proc;
}
