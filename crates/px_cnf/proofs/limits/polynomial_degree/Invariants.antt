use Rattle.std.proofs.Common.{◌≡◌, ◌≤◌, ◌*◌, take, map, length}
use Rattle.std.specs.List.{sum_by}
use Rattle.px_terms.specs.Terms.{Term}
use Rattle.px_terms.specs.Monomials.{term_of}
use Rattle.px_cnf.proofs.limits.polynomial_degree.Given as goal

abbrev pub invariant-loop-m : goal.invariant-loop-m
invariant-loop-m l = record {
  value : l.sum ≡ sum_by (λ (t : Term). length t.vars) (map term_of (take l.m-index l.m-items));
  small : l.sum ≤ 4 * l.m-index;
}
