use Rattle.std.proofs.Common.{take}
use Rattle.std.specs.Prelude.{All}
use Rattle.px_terms.specs.Conjuncts.{IsWellSorted}
use Rattle.part_cases.proofs.terms.sorts.are_sorted.Given as goal

abbrev pub invariant-loop-conjunct : goal.invariant-loop-conjunct
invariant-loop-conjunct l = All (IsWellSorted l.vars) (take l.conjunct-index l.conjuncts)
