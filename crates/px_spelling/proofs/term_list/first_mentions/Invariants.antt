use Rattle.std.proofs.Common.{◌≡◌, map, take}
use Rattle.px_spelling.specs.ByPlace.{distinct}
use Rattle.px_spelling.proofs.term_list.first_mentions.Given as goal

-- those of the mentions so far
abbrev pub invariant-loop-i : goal.invariant-loop-i
invariant-loop-i l = l.terms.items ≡ distinct (take l.i (map (λ p. p.now) l.mentions))
