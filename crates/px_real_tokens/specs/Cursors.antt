-- The line and the column of the next byte.
use Rattle.std.specs.Prelude.{ℕ, ◌+◌, ◌==◌, List, fold, if◌then◌else◌}
use Rattle.px_base.specs.declared.trace.Site.{Site}
use Rattle.px_real_tokens.specs.declared.cursor.Cursor.{Cursor}

-- after one more byte: a line feed (10) begins a line
abbrev pub cursor_next : Cursor → ℕ → Cursor
cursor_next c b = if b == 10 then record { line = c.line + 1; column = 1 } else record { line = c.line; column = c.column + 1 }

-- after these bytes, too
abbrev pub cursor_after : Cursor → List ℕ → Cursor
cursor_after c bs = fold cursor_next c bs

-- the site of the next byte in a file with this number
abbrev pub cursor_site : ℕ → Cursor → Site
cursor_site file c = record { file = file; line = c.line; column = c.column }
