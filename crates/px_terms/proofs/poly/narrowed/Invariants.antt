use Rattle.std.proofs.Common.{◌≤◌, take}
use Rattle.std.specs.Prelude.{All}
use Rattle.px_terms.proofs.poly.narrowed.Given as goal

abbrev pub invariant-loop-m : goal.invariant-loop-m
invariant-loop-m g l = All (λ m. m.degree ≤ 4) (take l.m-index l.monomials)
