-- What holds polynomials, where each is spelled in full.
use Rattle.std.specs.Prelude.{ℕ, List}
use Rattle.px_terms.specs.declared.conjuncts.Content.{Content}
use Rattle.px_terms.specs.declared.conjuncts.Conj.{Conj}
use Rattle.px_entry.specs.declared.atoms.AtomState.{AtomState}
use Rattle.px_entry.specs.declared.atoms.Atom.{Atom}
use Rattle.px_entry.specs.declared.entries.Entry.{Entry}
use Rattle.px_entry.specs.declared.tables.Cause.{Cause}
use Rattle.px_entry.specs.declared.tables.Gap.{Gap}
use Rattle.px_entry.specs.declared.tables.Table.{Table}
use Rattle.px_spelling.specs.Reading.{Reader}
use Rattle.px_spelling.specs.Polynomials.{in_full}
use Rattle.px_spelling.specs.Conjuncts as J
use Rattle.px_spelling.specs.Entries as E
use Rattle.px_spelling.specs.Tables as T

abbrev pub content_bytes : Content → List ℕ
content_bytes = J.content_bytes in_full

abbrev pub IsContent : Content → Type 0
IsContent = J.IsContent in_full

abbrev pub conj_bytes : Conj → List ℕ
conj_bytes = J.conj_bytes in_full

abbrev pub IsConj : Conj → Type 0
IsConj = J.IsConj in_full

abbrev pub atom_state_bytes : AtomState → List ℕ
atom_state_bytes = E.atom_state_bytes in_full

abbrev pub IsAtomState : AtomState → Type 0
IsAtomState = E.IsAtomState in_full

abbrev pub atom_bytes : Atom → List ℕ
atom_bytes = E.atom_bytes in_full

abbrev pub IsAtom : Atom → Type 0
IsAtom = E.IsAtom in_full

abbrev pub entry_bytes : Entry → List ℕ
entry_bytes = E.entry_bytes in_full

abbrev pub IsEntry : Entry → Type 0
IsEntry = E.IsEntry in_full

abbrev pub entry_at : Reader Entry
entry_at = E.entry_at in_full

abbrev pub cause_bytes : Cause → List ℕ
cause_bytes = T.cause_bytes in_full

abbrev pub IsCause : Cause → Type 0
IsCause = T.IsCause in_full

abbrev pub gap_bytes : Gap → List ℕ
gap_bytes = T.gap_bytes in_full

abbrev pub IsGap : Gap → Type 0
IsGap = T.IsGap in_full

abbrev pub gap_at : Reader Gap
gap_at = T.gap_at in_full

abbrev pub table_bytes : Table → List ℕ
table_bytes = T.table_bytes in_full

abbrev pub IsTable : Table → Type 0
IsTable = T.IsTable in_full

abbrev pub table_at : Reader Table
table_at = T.table_at in_full
