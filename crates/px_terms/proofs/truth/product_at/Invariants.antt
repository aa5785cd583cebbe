use Rattle.std.proofs.Common.{◌≡◌, ◌%◌, ◌^◌, take}
use Rattle.std.specs.Prelude.{All}
use Rattle.px_terms.specs.Terms.{product_at}
use Rattle.px_terms.specs.Valuations.{valuation_of, numbers_of, IsWord}
use Rattle.px_terms.proofs.truth.product_at.Given as goal

abbrev pub invariant-loop-i : goal.invariant-loop-i
invariant-loop-i l = record {
  words : All (λ x. IsWord (valuation_of l.valuation x)) (take l.i l.m.vars);
  product : l.product ≡ product_at (numbers_of (valuation_of l.valuation)) (take l.i l.m.vars) % 2 ^ 32;
}
