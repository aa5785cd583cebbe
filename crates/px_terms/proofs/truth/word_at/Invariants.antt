use Rattle.std.proofs.Common.{◌≡◌, ◌+◌, ◌%◌, ◌^◌, map, take}
use Rattle.std.specs.Prelude.{All, flat_map}
use Rattle.px_terms.specs.Terms.{value_at}
use Rattle.px_terms.specs.Monomials.{term_of}
use Rattle.px_terms.specs.Valuations.{valuation_of, numbers_of, IsWord}
use Rattle.px_terms.proofs.truth.word_at.Given as goal

abbrev pub invariant-loop-m : goal.invariant-loop-m
invariant-loop-m l = record {
  words : All (λ x. IsWord (valuation_of l.valuation x)) (flat_map (λ t. t.vars) (map term_of (take l.m-index l.m-items)));
  sum : l.sum ≡ (l.p.constant + value_at (numbers_of (valuation_of l.valuation)) (map term_of (take l.m-index l.m-items))) % 2 ^ 32;
}
