use Rattle.std.proofs.Common.{◌≤◌, take}
use Rattle.std.specs.Prelude.{All}
use Rattle.px_terms.proofs.product.degree_of.Given as goal

abbrev pub invariant-loop-m : goal.invariant-loop-m
invariant-loop-m g l = record {
  all : All (λ m. m.degree ≤ l.degree) (take l.m-index l.monomials);
  room : l.degree ≤ g.row.N;
}
