use Rattle.std.proofs.Common.{◌≡◌, map, take}
use Rattle.std.specs.Prelude.{flat_map}
use Rattle.px_terms.specs.Polynomials.{terms_of, normal_form}
use Rattle.px_terms.specs.Monomials.{term_of}
use Rattle.px_terms.specs.Substitutions.{substituted}
use Rattle.px_terms.specs.Wides.{wide_of}
use Rattle.px_terms.proofs.wide.substitute_linear.Given as goal

abbrev pub invariant-loop-m : goal.invariant-loop-m
invariant-loop-m l = wide_of l.total ≡ normal_form (flat_map (substituted l.with) (terms_of (record { constant = l.constant; monomials = map term_of (take l.m-index l.monomials) })))
