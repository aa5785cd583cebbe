use Rattle.px_book.proofs.CallerLemmas.{AreTurned}
use Rattle.px_book.proofs.callers.callers_in.Given as goal

abbrev pub invariant-loop-number : goal.invariant-loop-number
invariant-loop-number l = AreTurned l.graph l.callers l.number
