use Rattle.std.proofs.Common.{arith}
use Rattle.px_terms.proofs.Degrees.{few_short}
use Rattle.px_terms.proofs.poly.within_limits.Goals as goal

pub invariant_of-result : goal.invariant_of-result
invariant_of-result c =
    (record { constant = omega arith; monomials = c.requires }, few_short c.args.constant c.args.monomials.items (omega (arith, c.len.ensures)))

pub returns-clause-short : goal.returns-clause-short
returns-clause-short c = few_short c.args.constant c.args.monomials.items (omega (arith, c.len.ensures))
