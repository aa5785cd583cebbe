use Rattle.std.proofs.Common.{◌≡◌, take}
use Rattle.px_spelling.specs.ByPlace.{distinct}
use Rattle.px_spelling.proofs.term_list.do_differ.Given as goal

-- so far each is there once
abbrev pub invariant-loop-i : goal.invariant-loop-i
invariant-loop-i l = distinct (take l.i l.terms) ≡ take l.i l.terms
