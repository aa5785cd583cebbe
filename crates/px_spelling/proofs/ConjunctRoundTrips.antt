-- Places, contents and conjuncts are read again as they were written.
use Rattle.px_terms.specs.declared.conjuncts.Place.TheVariants as P
use Rattle.px_terms.specs.declared.conjuncts.Content.TheVariants as C
use Rattle.px_terms.specs.declared.conjuncts.Conj.TheVariants as J
use Rattle.px_spelling.specs.Conjuncts.{place_bytes, IsPlace, place_at, place_with, content_bytes, IsContent, content_at, content_with, conj_bytes, IsConj, conj_at, conj_with}
use Rattle.px_spelling.proofs.RoundTrip.{RoundTrip, done_reads, ◌⊛◌, tagged}
use Rattle.px_spelling.proofs.TypeRoundTrips.{var_round_trip}
use Rattle.px_spelling.specs.Polynomials.{PolynomialSpelling}

pub place_round_trip : RoundTrip place_bytes IsPlace place_at
unfolding place_at place_with
place_round_trip P.Null fits = tagged 0 place_with (done_reads P.Null)
place_round_trip (P.Var a) fits = tagged 1 place_with (done_reads P.Var ⊛ var_round_trip a fits)

-- where polynomials are read again
module _ (p : PolynomialSpelling) (again : RoundTrip p.bytes_of p.fits p.at) where
  pub content_round_trip : RoundTrip (content_bytes p) (IsContent p) (content_at p)
  unfolding content_at content_with
  content_round_trip C.Unwritten fits = tagged 0 (content_with p) (done_reads C.Unwritten)
  content_round_trip (C.Word a) fits = tagged 1 (content_with p) (done_reads C.Word ⊛ again a fits)
  content_round_trip (C.Place a) fits = tagged 2 (content_with p) (done_reads C.Place ⊛ place_round_trip a fits)
  content_round_trip (C.Cell a) fits = tagged 3 (content_with p) (done_reads C.Cell ⊛ var_round_trip a fits)

  pub conj_round_trip : RoundTrip (conj_bytes p) (IsConj p) (conj_at p)
  unfolding conj_at conj_with
  conj_round_trip (J.Equal a) fits = tagged 0 (conj_with p) (done_reads J.Equal ⊛ again a fits)
  conj_round_trip (J.Unequal a) fits = tagged 1 (conj_with p) (done_reads J.Unequal ⊛ again a fits)
  conj_round_trip (J.Less a b) fits = tagged 2 (conj_with p) (done_reads J.Less ⊛ again a fits.0 ⊛ again b fits.1)
  conj_round_trip (J.AtMost a b) fits = tagged 3 (conj_with p) (done_reads J.AtMost ⊛ again a fits.0 ⊛ again b fits.1)
  conj_round_trip (J.SamePlace a b) fits = tagged 4 (conj_with p) (done_reads J.SamePlace ⊛ place_round_trip a fits.0 ⊛ place_round_trip b fits.1)
  conj_round_trip (J.OtherPlace a b) fits = tagged 5 (conj_with p) (done_reads J.OtherPlace ⊛ place_round_trip a fits.0 ⊛ place_round_trip b fits.1)
  conj_round_trip (J.Written a) fits = tagged 6 (conj_with p) (done_reads J.Written ⊛ var_round_trip a fits)
  conj_round_trip (J.Unwritten a) fits = tagged 7 (conj_with p) (done_reads J.Unwritten ⊛ var_round_trip a fits)
  conj_round_trip (J.Quotient x a b) fits = tagged 8 (conj_with p) (done_reads J.Quotient ⊛ var_round_trip x fits.0 ⊛ again a fits.1 ⊛ again b fits.2)
