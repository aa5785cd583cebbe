-- Causes, drops and tables, in a spelling of polynomials.
use Rattle.std.specs.Prelude.{ℕ, List, [], ◌∷◌, ◌++◌, ◌==◌, if◌then◌else◌, ⊤}
use Rattle.px_base.specs.Bounds.{most_marks, most_conjuncts}
use Rattle.px_base.specs.declared.trace.Mark.{Mark}
use Rattle.px_entry.specs.declared.tables.LongKind.{LongKind}
use Rattle.px_entry.specs.declared.tables.LongKind.TheVariants as G
use Rattle.px_entry.specs.declared.tables.Cause.{Cause}
use Rattle.px_entry.specs.declared.tables.Cause.TheVariants as C
use Rattle.px_entry.specs.declared.tables.Gap.{Gap}
use Rattle.px_spelling.specs.Reading.{Reader, ◌>>=◌, ◌<*>◌, done, nothing}
use Rattle.px_spelling.specs.Numbers.{u8_at, u32_bytes, IsU32, u32_at}
use Rattle.px_spelling.specs.Lists.{list_bytes, IsList, list_at}
use Rattle.px_spelling.specs.Traces.{proc_id_bytes, IsProcId, proc_id_at, mark_bytes, IsMark, mark_at}
use Rattle.px_spelling.specs.Polynomials.{PolynomialSpelling}
use Rattle.px_spelling.specs.Conjuncts.{conj_bytes, IsConj, conj_at}
use Rattle.std.specs.Prelude.{◌-◌, length}
use Rattle.px_entry.specs.declared.entries.Entry.{Entry}
use Rattle.px_entry.specs.declared.tables.Table.{Table}
use Rattle.px_spelling.specs.Entries.{entry_bytes, IsEntry, entry_at}

-- a limit of a path
abbrev pub long_kind_bytes : LongKind → List ℕ
long_kind_bytes G.Trace = 0 ∷ []
long_kind_bytes G.Steps = 1 ∷ []
long_kind_bytes G.Conjuncts = 2 ∷ []
long_kind_bytes G.Atoms = 3 ∷ []
long_kind_bytes G.Variables = 4 ∷ []
long_kind_bytes G.Term = 5 ∷ []

abbrev pub IsLongKind : LongKind → Type 0
IsLongKind x = ⊤

unfoldable pub long_kind_with : ℕ → Reader LongKind
long_kind_with tag =
    if tag == 0 then done G.Trace else (
    if tag == 1 then done G.Steps else (
    if tag == 2 then done G.Conjuncts else (
    if tag == 3 then done G.Atoms else (
    if tag == 4 then done G.Variables else (
    if tag == 5 then done G.Term else nothing)))))

unfoldable pub long_kind_at : Reader LongKind
long_kind_at = u8_at >>= long_kind_with

-- why a path is no entry
abbrev pub cause_bytes : PolynomialSpelling → Cause → List ℕ
cause_bytes p (C.Undecided a) = 0 ∷ list_bytes (conj_bytes p) a
cause_bytes p (C.Nodes a) = 1 ∷ u32_bytes a
cause_bytes p (C.Paths a) = 2 ∷ u32_bytes a
cause_bytes p (C.Long a) = 3 ∷ long_kind_bytes a
cause_bytes p (C.Unknown a) = 4 ∷ proc_id_bytes a
cause_bytes p (C.Cycle a) = 5 ∷ proc_id_bytes a
cause_bytes p (C.Dropped a) = 6 ∷ proc_id_bytes a
cause_bytes p (C.LeftOut a) = 7 ∷ proc_id_bytes a
cause_bytes p (C.Outside a) = 8 ∷ u32_bytes a

abbrev pub IsCause : PolynomialSpelling → Cause → Type 0
IsCause p (C.Undecided a) = IsList (IsConj p) most_conjuncts a
IsCause p (C.Nodes a) = IsU32 a
IsCause p (C.Paths a) = IsU32 a
IsCause p (C.Long a) = IsLongKind a
IsCause p (C.Unknown a) = IsProcId a
IsCause p (C.Cycle a) = IsProcId a
IsCause p (C.Dropped a) = IsProcId a
IsCause p (C.LeftOut a) = IsProcId a
IsCause p (C.Outside a) = IsU32 a

unfoldable pub cause_with : PolynomialSpelling → ℕ → Reader Cause
cause_with p tag =
    if tag == 0 then done C.Undecided <*> list_at (conj_at p) most_conjuncts else (
    if tag == 1 then done C.Nodes <*> u32_at else (
    if tag == 2 then done C.Paths <*> u32_at else (
    if tag == 3 then done C.Long <*> long_kind_at else (
    if tag == 4 then done C.Unknown <*> proc_id_at else (
    if tag == 5 then done C.Cycle <*> proc_id_at else (
    if tag == 6 then done C.Dropped <*> proc_id_at else (
    if tag == 7 then done C.LeftOut <*> proc_id_at else (
    if tag == 8 then done C.Outside <*> u32_at else nothing))))))))

unfoldable pub cause_at : PolynomialSpelling → Reader Cause
cause_at p = u8_at >>= cause_with p

-- a drop
abbrev pub gap_bytes : PolynomialSpelling → Gap → List ℕ
gap_bytes p s = list_bytes mark_bytes s.trace ++ cause_bytes p s.cause

abbrev pub IsGap : PolynomialSpelling → Gap → Type 0
IsGap p s = IsList IsMark most_marks s.trace × IsCause p s.cause

abbrev pub gap_of : List Mark → Cause → Gap
gap_of trace cause = record { trace = trace; cause = cause }

unfoldable pub gap_at : PolynomialSpelling → Reader Gap
gap_at p = done gap_of <*> list_at mark_at most_marks <*> cause_at p

-- entries and drops of a table, together
abbrev pub most_rows : ℕ
most_rows = 129

-- a table
abbrev pub table_bytes : PolynomialSpelling → Table → List ℕ
table_bytes p s = list_bytes (entry_bytes p) s.entries ++ list_bytes (gap_bytes p) s.drops

abbrev pub IsTable : PolynomialSpelling → Table → Type 0
IsTable p s = IsList (IsEntry p) most_rows s.entries × IsList (IsGap p) (most_rows - length s.entries) s.drops

abbrev pub table_of : List Entry → List Gap → Table
table_of entries drops = record { entries = entries; drops = drops }

-- the drops after these entries
abbrev pub drops_at : PolynomialSpelling → List Entry → Reader Table
drops_at p entries = done (table_of entries) <*> list_at (gap_at p) (most_rows - length entries)

unfoldable pub table_at : PolynomialSpelling → Reader Table
table_at p = list_at (entry_at p) most_rows >>= drops_at p
