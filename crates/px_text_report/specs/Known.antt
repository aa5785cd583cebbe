-- What is known of the kept procedures of a program, as plain data.
use Rattle.std.specs.Prelude.{ℕ, List, map, slice_index_or}
use Rattle.px_entry.specs.declared.entries.Entry.{Entry}
use Rattle.px_entry.specs.declared.tables.Gap.{Gap}
use Rattle.px_check.specs.Answers.{entry_of}
use Rattle.px_pieces.specs.declared.findings.Part.{Part}
use Rattle.px_pieces.specs.declared.findings.Part.TheVariants.{Tabled, LeftOut}
use Rattle.px_pieces.specs.Found.{Found}

-- the entries and the drops of a procedure's table, or that it has none
pub data Known : Type 0 where
  tabled : List Entry → List Gap → Known
  left_out : Known

abbrev pub known_of : Part → Known
known_of (Tabled checked drops) = tabled (map entry_of checked) drops
known_of LeftOut = left_out

-- one for each kept procedure, in order
abbrev pub known : Found → List Known
known found = map known_of found.parts

-- what is known of the procedure with a number; one that isn't kept has no table either
abbrev pub known_at : List Known → ℕ → Known
known_at parts n = slice_index_or parts n left_out
