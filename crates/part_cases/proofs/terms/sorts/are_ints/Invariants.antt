use Rattle.std.proofs.Common.{take}
use Rattle.std.specs.Prelude.{All}
use Rattle.px_terms.specs.Conjuncts.{IsIntVariable}
use Rattle.part_cases.proofs.terms.sorts.are_ints.Given as goal

abbrev pub invariant-loop-x : goal.invariant-loop-x
invariant-loop-x l = All (IsIntVariable l.vars) (take l.x-index l.xs)
