use Rattle.std.proofs.Common.{take}
use Rattle.std.specs.Prelude.{All}
use Rattle.px_terms.specs.Conjuncts.{IsIntVariable}
use Rattle.px_terms.specs.Monomials.{term_of}
use Rattle.part_cases.proofs.terms.sorts.is_int_sum.Given as goal

abbrev pub invariant-loop-m : goal.invariant-loop-m
invariant-loop-m l = All (λ m. All (IsIntVariable l.vars) (term_of m).vars) (take l.m-index l.m-items)
