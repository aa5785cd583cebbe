use Rattle.px_book.proofs.SettleLemmas.{IsSettling}
use Rattle.px_book.proofs.statuses.settle.Given as goal

abbrev pub invariant-loop-caller : goal.invariant-loop-caller
invariant-loop-caller l = IsSettling l.graph l.statuses.items l.caller-items l.ready l.caller-index
