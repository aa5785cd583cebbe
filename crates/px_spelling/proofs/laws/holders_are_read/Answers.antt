use Rattle.px_spelling.specs.Polynomials.{PolynomialSpelling}
use Rattle.px_spelling.specs.Laws.{AreReadAgain}
use Rattle.px_spelling.proofs.RoundTrip.{RoundTrip}
use Rattle.px_spelling.proofs.EntryRoundTrips.{entry_round_trip}
use Rattle.px_spelling.proofs.TableRoundTrips.{table_round_trip}
use Rattle.px_spelling.proofs.CalleeRoundTrips.{callee_round_trip}
use Rattle.px_spelling.proofs.laws.holders_are_read.Goals as goal

again : (p : PolynomialSpelling) → AreReadAgain p → RoundTrip p.bytes_of p.fits p.at
again p h x fits = record { reads = λ rest. h x fits rest }

pub returns : goal.returns
returns g c h =
    let p = g.S.Terms.spelling c.args.terms.now in
    record {
      entries = λ x fits rest. (entry_round_trip p (again p h) x fits).reads rest;
      tables = λ x fits rest. (table_round_trip p (again p h) x fits).reads rest;
      callees = λ x fits rest. (callee_round_trip p (again p h) x fits).reads rest;
    }
