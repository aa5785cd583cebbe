-- Causes, drops and tables are read again as they were written.
use Rattle.px_entry.specs.declared.tables.LongKind.TheVariants as G
use Rattle.px_entry.specs.declared.tables.Cause.TheVariants as C
use Rattle.px_base.specs.Bounds.{most_marks, most_conjuncts}
use Rattle.px_spelling.specs.Lists.{list_bytes, list_at}
use Rattle.px_spelling.specs.Traces.{mark_bytes, IsMark, mark_at}
use Rattle.px_spelling.specs.Polynomials.{PolynomialSpelling}
use Rattle.px_spelling.specs.Conjuncts.{conj_bytes, IsConj, conj_at}
use Rattle.px_spelling.specs.Tables.{long_kind_bytes, IsLongKind, long_kind_at, long_kind_with, cause_bytes, IsCause, cause_at, cause_with, gap_bytes, IsGap, gap_at, gap_of}
use Rattle.px_spelling.proofs.RoundTrip.{RoundTrip, done_reads, ◌⊛◌, tagged, u32_round_trip, list_round_trip}
use Rattle.px_spelling.proofs.TraceRoundTrips.{proc_id_round_trip, mark_round_trip}
use Rattle.px_spelling.proofs.ConjunctRoundTrips.{conj_round_trip}
use Rattle.std.proofs.Common.{◌-◌, length}
use Rattle.px_spelling.specs.Entries.{entry_bytes, IsEntry, entry_at}
use Rattle.px_spelling.specs.Tables.{most_rows, table_bytes, IsTable, table_of, drops_at, table_at}
use Rattle.px_spelling.proofs.RoundTrip.{then_reads}
use Rattle.px_spelling.proofs.EntryRoundTrips.{entry_round_trip}

pub long_kind_round_trip : RoundTrip long_kind_bytes IsLongKind long_kind_at
unfolding long_kind_at long_kind_with
long_kind_round_trip G.Trace fits = tagged 0 long_kind_with (done_reads G.Trace)
long_kind_round_trip G.Steps fits = tagged 1 long_kind_with (done_reads G.Steps)
long_kind_round_trip G.Conjuncts fits = tagged 2 long_kind_with (done_reads G.Conjuncts)
long_kind_round_trip G.Atoms fits = tagged 3 long_kind_with (done_reads G.Atoms)
long_kind_round_trip G.Variables fits = tagged 4 long_kind_with (done_reads G.Variables)
long_kind_round_trip G.Term fits = tagged 5 long_kind_with (done_reads G.Term)

-- where polynomials are read again
module _ (p : PolynomialSpelling) (again : RoundTrip p.bytes_of p.fits p.at) where
  pub cause_round_trip : RoundTrip (cause_bytes p) (IsCause p) (cause_at p)
  unfolding cause_at cause_with
  cause_round_trip (C.Undecided a) fits = tagged 0 (cause_with p) (done_reads C.Undecided
      ⊛ list_round_trip (conj_bytes p) (IsConj p) (conj_at p) most_conjuncts (conj_round_trip p again) a fits)
  cause_round_trip (C.Nodes a) fits = tagged 1 (cause_with p) (done_reads C.Nodes ⊛ u32_round_trip a fits)
  cause_round_trip (C.Paths a) fits = tagged 2 (cause_with p) (done_reads C.Paths ⊛ u32_round_trip a fits)
  cause_round_trip (C.Long a) fits = tagged 3 (cause_with p) (done_reads C.Long ⊛ long_kind_round_trip a fits)
  cause_round_trip (C.Unknown a) fits = tagged 4 (cause_with p) (done_reads C.Unknown ⊛ proc_id_round_trip a fits)
  cause_round_trip (C.Cycle a) fits = tagged 5 (cause_with p) (done_reads C.Cycle ⊛ proc_id_round_trip a fits)
  cause_round_trip (C.Dropped a) fits = tagged 6 (cause_with p) (done_reads C.Dropped ⊛ proc_id_round_trip a fits)
  cause_round_trip (C.LeftOut a) fits = tagged 7 (cause_with p) (done_reads C.LeftOut ⊛ proc_id_round_trip a fits)
  cause_round_trip (C.Outside a) fits = tagged 8 (cause_with p) (done_reads C.Outside ⊛ u32_round_trip a fits)

  pub gap_round_trip : RoundTrip (gap_bytes p) (IsGap p) (gap_at p)
  unfolding gap_at
  gap_round_trip s fits = done_reads gap_of ⊛ list_round_trip mark_bytes IsMark mark_at most_marks mark_round_trip s.trace fits.0 ⊛ cause_round_trip s.cause fits.1

  pub table_round_trip : RoundTrip (table_bytes p) (IsTable p) (table_at p)
  unfolding table_at
  table_round_trip s fits =
      then_reads (list_at (entry_at p) most_rows) (drops_at p) (list_bytes (entry_bytes p) s.entries) (list_bytes (gap_bytes p) s.drops) s.entries s
      (list_round_trip (entry_bytes p) (IsEntry p) (entry_at p) most_rows (entry_round_trip p again) s.entries fits.0)
      (done_reads (table_of s.entries) ⊛ list_round_trip (gap_bytes p) (IsGap p) (gap_at p) (most_rows - length s.entries) gap_round_trip s.drops fits.1)
