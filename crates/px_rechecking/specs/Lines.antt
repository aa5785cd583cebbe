-- The line after a report, and what is wrong with a file of kept summaries.
use Rattle.std.specs.Prelude.{ℕ, ◌-◌, List, ◌++◌, Bool, Option, Some, None, codes, if◌then◌else◌}
use Rattle.std.specs.Fmt.{decimal}
use Rattle.px_lines.specs.Lines.{line_feed}
use Rattle.px_pieces.specs.Found.{Found}
use Rattle.px_text_report.specs.Known.{known}
use Rattle.px_text_report.specs.Reports.{table_count}

-- summaries kept U, computed V: of so many tables, so many are of kept items, and the rest were computed
abbrev pub stats_line : ℕ → ℕ → List ℕ
stats_line used tables = codes "summaries kept " ++ (decimal used ++ (codes ", computed " ++ (decimal (tables - used) ++ line_feed)))

-- the line after a report, where it is asked for
abbrev pub line_asked : Bool → ℕ → Found → Option (List ℕ)
line_asked stats used f = if stats then Some (stats_line used (table_count (known f))) else None

-- : bad item at byte N
abbrev pub bad_item_text : ℕ → List ℕ
bad_item_text place = codes ": bad item at byte " ++ (decimal place ++ line_feed)

-- : more than 67108864 bytes
abbrev pub long_text : List ℕ
long_text = codes ": more than 67108864 bytes" ++ line_feed

-- the most bytes of a file of kept summaries
abbrev pub most_kept_bytes : ℕ
most_kept_bytes = 67108864
