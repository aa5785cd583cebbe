-- What holds polynomials is read again as it was written, where each of these is spelled in full.
use Rattle.px_spelling.specs.Polynomials.{in_full}
use Rattle.px_spelling.specs.InFull.{entry_bytes, IsEntry, entry_at, gap_bytes, IsGap, gap_at, table_bytes, IsTable, table_at}
use Rattle.px_spelling.proofs.RoundTrip.{RoundTrip}
use Rattle.px_spelling.proofs.PolynomialRoundTrips.{polynomial_round_trip}
use Rattle.px_spelling.proofs.EntryRoundTrips as E
use Rattle.px_spelling.proofs.TableRoundTrips as T

pub entry_round_trip : RoundTrip entry_bytes IsEntry entry_at
entry_round_trip = E.entry_round_trip in_full polynomial_round_trip

pub gap_round_trip : RoundTrip gap_bytes IsGap gap_at
gap_round_trip = T.gap_round_trip in_full polynomial_round_trip

pub table_round_trip : RoundTrip table_bytes IsTable table_at
table_round_trip = T.table_round_trip in_full polynomial_round_trip
