-- Procedures, places and marks are read again as they were written.
use Rattle.px_base.specs.declared.trace.MarkKind.TheVariants as M
use Rattle.px_base.specs.declared.trace.Kind.TheVariants as K
use Rattle.px_spelling.specs.Traces.{proc_id_bytes, IsProcId, proc_id_at, proc_id_of, field_id_bytes, IsFieldId, field_id_at, field_id_of, site_bytes, IsSite, site_at, site_of, mark_kind_bytes, IsMarkKind, mark_kind_at, mark_kind_with, mark_bytes, IsMark, mark_at, mark_of, kind_bytes, IsKind, kind_at, kind_with}
use Rattle.px_spelling.proofs.RoundTrip.{RoundTrip, done_reads, ◌⊛◌, tagged, u32_round_trip}

pub proc_id_round_trip : RoundTrip proc_id_bytes IsProcId proc_id_at
unfolding proc_id_at
proc_id_round_trip s fits = done_reads proc_id_of ⊛ u32_round_trip s.0 fits

pub field_id_round_trip : RoundTrip field_id_bytes IsFieldId field_id_at
unfolding field_id_at
field_id_round_trip s fits = done_reads field_id_of ⊛ u32_round_trip s.0 fits

pub site_round_trip : RoundTrip site_bytes IsSite site_at
unfolding site_at
site_round_trip s fits = done_reads site_of ⊛ u32_round_trip s.file fits.0 ⊛ u32_round_trip s.line fits.1 ⊛ u32_round_trip s.column fits.2

pub mark_kind_round_trip : RoundTrip mark_kind_bytes IsMarkKind mark_kind_at
unfolding mark_kind_at mark_kind_with
mark_kind_round_trip M.Then fits = tagged 0 mark_kind_with (done_reads M.Then)
mark_kind_round_trip M.Else fits = tagged 1 mark_kind_with (done_reads M.Else)
mark_kind_round_trip M.Iter fits = tagged 2 mark_kind_with (done_reads M.Iter)
mark_kind_round_trip M.Done fits = tagged 3 mark_kind_with (done_reads M.Done)
mark_kind_round_trip M.Got fits = tagged 4 mark_kind_with (done_reads M.Got)
mark_kind_round_trip M.NoBlock fits = tagged 5 mark_kind_with (done_reads M.NoBlock)
mark_kind_round_trip M.Input fits = tagged 6 mark_kind_with (done_reads M.Input)
mark_kind_round_trip M.Access fits = tagged 7 mark_kind_with (done_reads M.Access)
mark_kind_round_trip M.Freed fits = tagged 8 mark_kind_with (done_reads M.Freed)
mark_kind_round_trip M.FreeNull fits = tagged 9 mark_kind_with (done_reads M.FreeNull)
mark_kind_round_trip (M.Enter a) fits = tagged 10 mark_kind_with (done_reads M.Enter ⊛ proc_id_round_trip a fits)
mark_kind_round_trip M.Leave fits = tagged 11 mark_kind_with (done_reads M.Leave)

pub mark_round_trip : RoundTrip mark_bytes IsMark mark_at
unfolding mark_at
mark_round_trip s fits = done_reads mark_of ⊛ mark_kind_round_trip s.kind fits.0 ⊛ site_round_trip s.site fits.1

pub kind_round_trip : RoundTrip kind_bytes IsKind kind_at
unfolding kind_at kind_with
kind_round_trip K.NullDereference fits = tagged 0 kind_with (done_reads K.NullDereference)
kind_round_trip K.UseAfterFree fits = tagged 1 kind_with (done_reads K.UseAfterFree)
kind_round_trip K.DoubleFree fits = tagged 2 kind_with (done_reads K.DoubleFree)
kind_round_trip K.UninitialisedRead fits = tagged 3 kind_with (done_reads K.UninitialisedRead)
kind_round_trip K.DivisionByZero fits = tagged 4 kind_with (done_reads K.DivisionByZero)
