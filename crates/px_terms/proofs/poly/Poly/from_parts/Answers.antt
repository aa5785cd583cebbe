use Rattle.std.proofs.Common.{map, subst, arith}
use Rattle.px_terms.specs.Terms.{IsNormal}
use Rattle.px_terms.specs.Monomials.{term_of}
use Rattle.px_terms.proofs.Degrees.{few_short}
use Rattle.px_terms.proofs.poly.Poly.from_parts.Goals as goal

pub invariant_of-result : goal.invariant_of-result
invariant_of-result c =
    let few = c.if-len-gt-MOST_MONOMIALS.false in (
      record {
        constant = omega arith;
        monomials = subst (λ z. IsNormal (map term_of z)) c.deref.ensures.value (c.is_normal.ensures.0 c.if-not-is_normal.false);
      },
      few_short c.args.constant c.args.monomials.items (omega (arith, c.len.ensures)),
    )
