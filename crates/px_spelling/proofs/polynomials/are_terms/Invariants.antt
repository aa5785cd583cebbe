use Rattle.std.proofs.Common.{drop, map}
use Rattle.std.specs.Prelude.{◌↔◌}
use Rattle.std.specs.List.{AllByRecursion}
use Rattle.px_terms.specs.Monomials.{term_of}
use Rattle.px_spelling.specs.Polynomials.{IsTerm}
use Rattle.px_spelling.proofs.polynomials.are_terms.Given as goal

-- those that are left are in range where all are
abbrev pub invariant-loop-monomial : goal.invariant-loop-monomial
invariant-loop-monomial l = AllByRecursion IsTerm (map term_of (drop l.monomial-index l.monomials)) ↔ AllByRecursion IsTerm (map term_of l.monomials)
