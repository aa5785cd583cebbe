use Rattle.px_book.proofs.BeginLemmas.{IsBegun}
use Rattle.px_book.proofs.ready.Ready.new.Given as goal

abbrev pub invariant-loop-number : goal.invariant-loop-number
invariant-loop-number l = IsBegun l.graph l.statuses l.ready l.number
