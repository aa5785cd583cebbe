use Rattle.std.proofs.Common.{◌≡◌, ◌≤◌, ◌++◌, length, map, take}
use Rattle.px_spelling.specs.ByPlace.{distinct}
use Rattle.px_parts.proofs.named.count_named.Given as goal

-- so many of the terms are those that were named, and those of the mentions so far
abbrev pub invariant-loop-mention : goal.invariant-loop-mention
invariant-loop-mention l = (l.count ≤ length l.terms) × (distinct (take l.named l.terms ++ take l.mention-index (map (λ p. p.now) l.mentions)) ≡ take l.count l.terms)
