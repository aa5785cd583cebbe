use Rattle.std.proofs.Common.{◌≡◌, ◌≤◌, length, map, take}
use Rattle.px_spelling.specs.ByPlace.{distinct}
use Rattle.px_spelling.proofs.term_list.TermList.lists.Given as goal

-- so many of them are those of the mentions so far
abbrev pub invariant-loop-mention : goal.invariant-loop-mention
invariant-loop-mention l = (l.count ≤ length l.self) × (distinct (take l.mention-index (map (λ p. p.now) l.mentions)) ≡ take l.count l.self)
