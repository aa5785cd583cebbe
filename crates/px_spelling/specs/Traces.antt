-- Procedures, places and marks.
use Rattle.std.specs.Prelude.{ℕ, List, [], ◌∷◌, ◌++◌, ◌==◌, if◌then◌else◌, ⊤}
use Rattle.px_base.specs.declared.trace.ProcId.{ProcId}
use Rattle.px_base.specs.declared.trace.FieldId.{FieldId}
use Rattle.px_base.specs.declared.trace.Site.{Site}
use Rattle.px_base.specs.declared.trace.MarkKind.{MarkKind}
use Rattle.px_base.specs.declared.trace.MarkKind.TheVariants as M
use Rattle.px_base.specs.declared.trace.Mark.{Mark}
use Rattle.px_base.specs.declared.trace.Kind.{Kind}
use Rattle.px_base.specs.declared.trace.Kind.TheVariants as K
use Rattle.px_spelling.specs.Reading.{Reader, ◌>>=◌, ◌<*>◌, done, nothing}
use Rattle.px_spelling.specs.Numbers.{u8_at, u32_bytes, IsU32, u32_at}

-- the number of a procedure
abbrev pub proc_id_bytes : ProcId → List ℕ
proc_id_bytes s = u32_bytes s.0

abbrev pub IsProcId : ProcId → Type 0
IsProcId s = IsU32 s.0

abbrev pub proc_id_of : ℕ → ProcId
proc_id_of n = record { 0 = n }

unfoldable pub proc_id_at : Reader ProcId
proc_id_at = done proc_id_of <*> u32_at

-- the number of a field
abbrev pub field_id_bytes : FieldId → List ℕ
field_id_bytes s = u32_bytes s.0

abbrev pub IsFieldId : FieldId → Type 0
IsFieldId s = IsU32 s.0

abbrev pub field_id_of : ℕ → FieldId
field_id_of n = record { 0 = n }

unfoldable pub field_id_at : Reader FieldId
field_id_at = done field_id_of <*> u32_at

-- a place in the source
abbrev pub site_bytes : Site → List ℕ
site_bytes s = u32_bytes s.file ++ u32_bytes s.line ++ u32_bytes s.column

abbrev pub IsSite : Site → Type 0
IsSite s = IsU32 s.file × IsU32 s.line × IsU32 s.column

abbrev pub site_of : ℕ → ℕ → ℕ → Site
site_of file line column = record { file = file; line = line; column = column }

unfoldable pub site_at : Reader Site
site_at = done site_of <*> u32_at <*> u32_at <*> u32_at

-- what a mark shows
abbrev pub mark_kind_bytes : MarkKind → List ℕ
mark_kind_bytes M.Then = 0 ∷ []
mark_kind_bytes M.Else = 1 ∷ []
mark_kind_bytes M.Iter = 2 ∷ []
mark_kind_bytes M.Done = 3 ∷ []
mark_kind_bytes M.Got = 4 ∷ []
mark_kind_bytes M.NoBlock = 5 ∷ []
mark_kind_bytes M.Input = 6 ∷ []
mark_kind_bytes M.Access = 7 ∷ []
mark_kind_bytes M.Freed = 8 ∷ []
mark_kind_bytes M.FreeNull = 9 ∷ []
mark_kind_bytes (M.Enter a) = 10 ∷ proc_id_bytes a
mark_kind_bytes M.Leave = 11 ∷ []

abbrev pub IsMarkKind : MarkKind → Type 0
IsMarkKind M.Then = ⊤
IsMarkKind M.Else = ⊤
IsMarkKind M.Iter = ⊤
IsMarkKind M.Done = ⊤
IsMarkKind M.Got = ⊤
IsMarkKind M.NoBlock = ⊤
IsMarkKind M.Input = ⊤
IsMarkKind M.Access = ⊤
IsMarkKind M.Freed = ⊤
IsMarkKind M.FreeNull = ⊤
IsMarkKind (M.Enter a) = IsProcId a
IsMarkKind M.Leave = ⊤

unfoldable pub mark_kind_with : ℕ → Reader MarkKind
mark_kind_with tag =
    if tag == 0 then done M.Then else (
    if tag == 1 then done M.Else else (
    if tag == 2 then done M.Iter else (
    if tag == 3 then done M.Done else (
    if tag == 4 then done M.Got else (
    if tag == 5 then done M.NoBlock else (
    if tag == 6 then done M.Input else (
    if tag == 7 then done M.Access else (
    if tag == 8 then done M.Freed else (
    if tag == 9 then done M.FreeNull else (
    if tag == 10 then done M.Enter <*> proc_id_at else (
    if tag == 11 then done M.Leave else nothing)))))))))))

unfoldable pub mark_kind_at : Reader MarkKind
mark_kind_at = u8_at >>= mark_kind_with

-- a mark of a trace
abbrev pub mark_bytes : Mark → List ℕ
mark_bytes s = mark_kind_bytes s.kind ++ site_bytes s.site

abbrev pub IsMark : Mark → Type 0
IsMark s = IsMarkKind s.kind × IsSite s.site

abbrev pub mark_of : MarkKind → Site → Mark
mark_of kind site = record { kind = kind; site = site }

unfoldable pub mark_at : Reader Mark
mark_at = done mark_of <*> mark_kind_at <*> site_at

-- a memory error
abbrev pub kind_bytes : Kind → List ℕ
kind_bytes K.NullDereference = 0 ∷ []
kind_bytes K.UseAfterFree = 1 ∷ []
kind_bytes K.DoubleFree = 2 ∷ []
kind_bytes K.UninitialisedRead = 3 ∷ []
kind_bytes K.DivisionByZero = 4 ∷ []

abbrev pub IsKind : Kind → Type 0
IsKind x = ⊤

unfoldable pub kind_with : ℕ → Reader Kind
kind_with tag =
    if tag == 0 then done K.NullDereference else (
    if tag == 1 then done K.UseAfterFree else (
    if tag == 2 then done K.DoubleFree else (
    if tag == 3 then done K.UninitialisedRead else (
    if tag == 4 then done K.DivisionByZero else nothing))))

unfoldable pub kind_at : Reader Kind
kind_at = u8_at >>= kind_with
