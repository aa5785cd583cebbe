use Rattle.px_book.proofs.StartLemmas.{NoneLeft}
use Rattle.px_book.proofs.statuses.none_unsettled.Given as goal

abbrev pub invariant-loop-status : goal.invariant-loop-status
invariant-loop-status l = NoneLeft l.statuses l.status-index
