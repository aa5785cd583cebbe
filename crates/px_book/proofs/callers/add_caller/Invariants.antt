use Rattle.px_book.proofs.CallerLemmas.{HasEdges}
use Rattle.px_book.proofs.callers.add_caller.Given as goal

abbrev pub invariant-loop-callee : goal.invariant-loop-callee
invariant-loop-callee l = HasEdges l.fn.callers l.callees l.caller l.callers l.callee-index
