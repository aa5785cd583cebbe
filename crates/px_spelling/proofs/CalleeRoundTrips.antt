-- What is known of callees are read again as they were written.
use Rattle.px_callgraph.specs.declared.jobs.Callee.TheVariants as C
use Rattle.px_spelling.specs.Polynomials.{PolynomialSpelling}
use Rattle.px_spelling.specs.Callees.{callee_bytes, IsCallee, callee_at, callee_with}
use Rattle.px_spelling.proofs.RoundTrip.{RoundTrip, done_reads, ◌⊛◌, tagged}
use Rattle.px_spelling.proofs.TableRoundTrips.{table_round_trip}

pub callee_round_trip : (p : PolynomialSpelling) → RoundTrip p.bytes_of p.fits p.at → RoundTrip (callee_bytes p) (IsCallee p) (callee_at p)
unfolding callee_at callee_with
callee_round_trip p again (C.Table a) fits = tagged 0 (callee_with p) (done_reads C.Table ⊛ table_round_trip p again a fits)
callee_round_trip p again C.Cycle fits = tagged 1 (callee_with p) (done_reads C.Cycle)
callee_round_trip p again C.LeftOut fits = tagged 2 (callee_with p) (done_reads C.LeftOut)
callee_round_trip p again C.Unknown fits = tagged 3 (callee_with p) (done_reads C.Unknown)
