-- The worked divisions.
use Rattle.std.proofs.Common.{refl}
use Rattle.std.specs.Int.{int_wrap}
use Rattle.px_meaning.specs.WorkedDivisions.{WorkedDivisions}

pub divisions : WorkedDivisions
unfolding int_wrap
divisions = record {
  quotient_up = refl;
  quotient_of_negative = refl;
  quotient_by_negative = refl;
  quotient_of_negatives = refl;
  small_quotient = refl;
  small_negative = refl;
  least_quotient = refl;
  no_quotient = refl;
  remainder_up = refl;
  remainder_of_negative = refl;
  remainder_by_negative = refl;
  remainder_of_negatives = refl;
  least_remainder = refl;
  no_remainder = refl;
  divides = (20, (refl, refl, refl));
  divides_by_zero = (20, (refl, refl, refl));
  remains = (20, (refl, refl, refl));
  remains_by_zero = (20, (refl, refl, refl));
  tree_divides = (9, (refl, refl, refl));
  tree_divides_by_zero = (9, (refl, refl, refl));
  tree_remains = (9, (refl, refl, refl));
  tree_remains_by_zero = (9, (refl, refl, refl));
}
