use Rattle.px_book.proofs.HeldLemmas.{NoneHeld}
use Rattle.px_book.proofs.held.some_held.Given as goal

abbrev pub invariant-loop-proc : goal.invariant-loop-proc
invariant-loop-proc l = NoneHeld l.statuses l.held l.proc-index
