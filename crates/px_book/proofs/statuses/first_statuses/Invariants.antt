use Rattle.std.proofs.Common.{◌≡◌, ℕ, drop, length}
use Rattle.px_pieces.specs.Desk.{start}
use Rattle.px_book.specs.Ready.{status_at}
use Rattle.px_book.specs.Rolls.{no_bodies}
use Rattle.px_book.proofs.StartLemmas.{without}
use Rattle.px_book.proofs.statuses.first_statuses.Given as goal

-- once those that are left to be left out are, it is the start
abbrev pub invariant-loop-proc : goal.invariant-loop-proc
invariant-loop-proc l = record {
  size : length l.statuses.items ≡ l.kept;
  start : (f : ℕ) → without (drop l.proc-index l.out) f (status_at l.statuses.items f) ≡ start (record { bodies = no_bodies; kept = l.kept; out = l.out }) f;
}
