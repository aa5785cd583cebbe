use Rattle.std.proofs.Common.{◌≤◌}
use Rattle.px_book.specs.Flags.{NoneSet}
use Rattle.px_book.proofs.flags.least_in.Given as goal

abbrev pub invariant-loop-place : goal.invariant-loop-place
invariant-loop-place l = record { from : l.from ≤ l.place; none : NoneSet l.flags l.from l.place }
