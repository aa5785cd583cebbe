use Rattle.px_book.proofs.HeldLemmas.{NoneUnder}
use Rattle.px_book.proofs.held.held_under.Given as goal

abbrev pub invariant-loop-proc : goal.invariant-loop-proc
invariant-loop-proc l = NoneUnder l.statuses l.held l.ticket l.proc-index
