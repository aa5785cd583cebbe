-- What is known of callees.
use Rattle.std.specs.Prelude.{ℕ, List, [], ◌∷◌, ◌==◌, if◌then◌else◌, ⊤}
use Rattle.px_entry.specs.declared.tables.Table.{Table}
use Rattle.px_callgraph.specs.declared.jobs.Callee.{Callee}
use Rattle.px_callgraph.specs.declared.jobs.Callee.TheVariants as C
use Rattle.px_spelling.specs.Reading.{Reader, ◌>>=◌, ◌<*>◌, done, nothing}
use Rattle.px_spelling.specs.Numbers.{u8_at}
use Rattle.px_spelling.specs.Polynomials.{PolynomialSpelling}
use Rattle.px_spelling.specs.Tables.{table_bytes, IsTable, table_at}

-- what is known of a callee, in a spelling of polynomials
abbrev pub callee_bytes : PolynomialSpelling → Callee → List ℕ
callee_bytes p (C.Table a) = 0 ∷ table_bytes p a
callee_bytes p C.Cycle = 1 ∷ []
callee_bytes p C.LeftOut = 2 ∷ []
callee_bytes p C.Unknown = 3 ∷ []

abbrev pub IsCallee : PolynomialSpelling → Callee → Type 0
IsCallee p (C.Table a) = IsTable p a
IsCallee p C.Cycle = ⊤
IsCallee p C.LeftOut = ⊤
IsCallee p C.Unknown = ⊤

unfoldable pub callee_with : PolynomialSpelling → ℕ → Reader Callee
callee_with p tag =
    if tag == 0 then done C.Table <*> table_at p else (
    if tag == 1 then done C.Cycle else (
    if tag == 2 then done C.LeftOut else (
    if tag == 3 then done C.Unknown else nothing)))

unfoldable pub callee_at : PolynomialSpelling → Reader Callee
callee_at p = u8_at >>= callee_with p
