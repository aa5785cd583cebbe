use Rattle.std.proofs.Common.{◌≤◌, length, take}
use Rattle.std.specs.Prelude.{All}
use Rattle.px_terms.specs.Monomials.{term_of}
use Rattle.px_parity.proofs.equations.is_linear.Given as goal

abbrev pub invariant-loop-term : goal.invariant-loop-term
invariant-loop-term l = All (λ m. length (term_of m).vars ≤ 1) (take l.term-index l.term-items)
