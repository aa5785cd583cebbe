-- Polynomials are read again as they were written.
use Rattle.std.proofs.Common.{refl}
use Rattle.px_terms.specs.Polynomials.{most_monomials, most_degree}
use Rattle.px_spelling.specs.Numbers.{u32_bytes, IsU32, u32_at}
use Rattle.px_spelling.specs.Lists.{list_bytes}
use Rattle.px_spelling.specs.Polynomials.{term_bytes, IsTerm, term_of, term_at, polynomial_bytes, IsPolynomialInRange, monomials_at, polynomial_at}
use Rattle.px_spelling.proofs.RoundTrip.{RoundTrip, done_reads, then_reads, ◌⊛◌, u32_round_trip, list_round_trip}
use Rattle.px_spelling.proofs.NormalTest.{normal_is}

pub term_round_trip : RoundTrip term_bytes IsTerm term_at
unfolding term_at
term_round_trip t fits = done_reads term_of ⊛ u32_round_trip t.coefficient fits.0 ⊛ list_round_trip u32_bytes IsU32 u32_at most_degree u32_round_trip t.vars fits.1

pub polynomial_round_trip : RoundTrip polynomial_bytes IsPolynomialInRange polynomial_at
unfolding polynomial_at
polynomial_round_trip p fits =
    then_reads u32_at monomials_at (u32_bytes p.constant) (list_bytes term_bytes p.monomials) p.constant p (u32_round_trip p.constant fits.0)
    (record {
      reads = λ rest. rw ((list_round_trip term_bytes IsTerm term_at most_monomials term_round_trip p.monomials fits.1).reads rest, normal_is p.monomials fits.2) refl;
    })
