use Rattle.std.proofs.Common.{◌≡◌, map, take}
use Rattle.px_terms.specs.Monomials.{term_of}
use Rattle.px_terms.proofs.sizes.resized_all.Given as goal

abbrev pub invariant-loop-m : goal.invariant-loop-m
invariant-loop-m g l = map term_of l.all.items ≡ map term_of (take l.m-index l.monomials)
