-- Atoms and entries are read again as they were written.
use Rattle.px_entry.specs.declared.atoms.AtomState.TheVariants as A
use Rattle.px_entry.specs.declared.entries.Exit.TheVariants as X
use Rattle.px_base.specs.Bounds.{most_marks, most_conjuncts, most_atoms, most_variables}
use Rattle.px_spelling.specs.Lists.{any_number}
use Rattle.px_spelling.specs.Traces.{mark_bytes, IsMark, mark_at}
use Rattle.px_spelling.specs.Types.{var_info_bytes, IsVarInfo, var_info_at, value_bytes, IsValue, value_at}
use Rattle.px_spelling.specs.Polynomials.{PolynomialSpelling}
use Rattle.px_spelling.specs.Conjuncts.{content_bytes, IsContent, content_at, conj_bytes, IsConj, conj_at}
use Rattle.px_spelling.specs.Entries.{atom_state_bytes, IsAtomState, atom_state_at, atom_state_with, atom_bytes, IsAtom, atom_at, atom_of, exit_bytes, IsExit, exit_at, exit_with, entry_bytes, IsEntry, entry_at, entry_of}
use Rattle.px_spelling.proofs.RoundTrip.{RoundTrip, done_reads, ◌⊛◌, tagged, list_round_trip, option_round_trip}
use Rattle.px_spelling.proofs.TraceRoundTrips.{proc_id_round_trip, site_round_trip, mark_round_trip, kind_round_trip}
use Rattle.px_spelling.proofs.TypeRoundTrips.{type_id_round_trip, var_round_trip, var_info_round_trip, value_round_trip}
use Rattle.px_spelling.proofs.ConjunctRoundTrips.{content_round_trip, conj_round_trip}

pub exit_round_trip : RoundTrip exit_bytes IsExit exit_at
unfolding exit_at exit_with
exit_round_trip X.Ok fits = tagged 0 exit_with (done_reads X.Ok)
exit_round_trip (X.Error a b) fits = tagged 1 exit_with (done_reads X.Error ⊛ kind_round_trip a fits.0 ⊛ site_round_trip b fits.1)

-- where polynomials are read again
module _ (p : PolynomialSpelling) (again : RoundTrip p.bytes_of p.fits p.at) where
  pub atom_state_round_trip : RoundTrip (atom_state_bytes p) (IsAtomState p) (atom_state_at p)
  unfolding atom_state_at atom_state_with
  atom_state_round_trip (A.Live a) fits = tagged 0 (atom_state_with p) (done_reads A.Live
      ⊛ list_round_trip (content_bytes p) (IsContent p) (content_at p) any_number (content_round_trip p again) a fits)
  atom_state_round_trip A.Freed fits = tagged 1 (atom_state_with p) (done_reads A.Freed)

  pub atom_round_trip : RoundTrip (atom_bytes p) (IsAtom p) (atom_at p)
  unfolding atom_at
  atom_round_trip s fits = done_reads atom_of ⊛ var_round_trip s.place fits.0 ⊛ type_id_round_trip s.block fits.1 ⊛ atom_state_round_trip s.state fits.2

  pub entry_round_trip : RoundTrip (entry_bytes p) (IsEntry p) (entry_at p)
  unfolding entry_at
  entry_round_trip s fits = done_reads entry_of ⊛ proc_id_round_trip s.proc fits.0
      ⊛ list_round_trip mark_bytes IsMark mark_at most_marks mark_round_trip s.trace fits.1 ⊛ exit_round_trip s.exit fits.2
      ⊛ option_round_trip (content_bytes p) (IsContent p) (content_at p) (content_round_trip p again) s.result fits.3
      ⊛ list_round_trip var_info_bytes IsVarInfo var_info_at most_variables var_info_round_trip s.vars fits.4
      ⊛ list_round_trip (conj_bytes p) (IsConj p) (conj_at p) most_conjuncts (conj_round_trip p again) s.pure fits.5
      ⊛ list_round_trip (atom_bytes p) (IsAtom p) (atom_at p) most_atoms atom_round_trip s.pre fits.6
      ⊛ list_round_trip (atom_bytes p) (IsAtom p) (atom_at p) most_atoms atom_round_trip s.post fits.7
      ⊛ list_round_trip value_bytes IsValue value_at any_number value_round_trip s.model fits.8
