-- The line of `--stats`.
use Rattle.std.specs.Prelude.{ℕ, List, ◌++◌, Bool, Option, Some, None, codes, if◌then◌else◌}
use Rattle.std.specs.Fmt.{decimal}
use Rattle.px_lines.specs.Lines.{line_feed}
use Rattle.px_pieces.specs.declared.desk.Event.{Event}
use Rattle.px_pieces.specs.Found.{Found}
use Rattle.px_book.specs.Tallies.{losses}
use Rattle.px_pooled.specs.Words.{of_workers, of_parent}

-- workers published A, parent published B, lost C
abbrev pub stats_line : List Event → List ℕ
stats_line h =
    codes "workers published " ++ (decimal (of_workers h)
    ++ (codes ", parent published " ++ (decimal (of_parent h)
    ++ (codes ", lost " ++ (decimal (losses h) ++ line_feed)))))

-- the line after a report, where it is asked for
abbrev pub line_asked : Bool → Found → Option (List ℕ)
line_asked stats f = if stats then Some (stats_line f.events) else None
