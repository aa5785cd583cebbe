-- What was found out of a program, as plain data.
use Rattle.std.specs.Prelude.{ℕ, List, map, Option, Some, None, option_and_then, slice_get}
use Rattle.px_entry.specs.declared.tables.Table.{Table}
use Rattle.px_check.specs.Answers.{entry_of}
use Rattle.px_pieces.specs.declared.desk.Event.{Event}
use Rattle.px_pieces.specs.declared.findings.Part.{Part}
use Rattle.px_pieces.specs.declared.findings.Part.TheVariants.{Tabled, LeftOut}

-- a part for each kept procedure, in order; and the events that led to them
pub record Found : Type 0 where
  pub parts : List Part
  pub events : List Event

-- the table of a part, if it has one
abbrev pub table_of : Part → Option Table
table_of (Tabled checked drops) = Some (record { entries = map entry_of checked; drops = drops })
table_of LeftOut = None

-- that of the procedure with a number
abbrev pub tables_in : Found → ℕ → Option Table
tables_in f n = option_and_then table_of (slice_get f.parts n)
