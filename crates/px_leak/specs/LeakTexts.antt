-- Leaks and their marks, as they are printed.
use Rattle.std.specs.Prelude.{ℕ, Bool, List, [], ◌∷◌, ◌++◌, length, codes, if◌then◌else◌}
use Rattle.std.specs.Fmt.{decimal}
use Rattle.px_syntax.specs.ProgramTree.{ProgramTree}
use Rattle.px_text_report.specs.Places.{line_feed, name_at, place_text}
use Rattle.px_text_report.specs.BugTexts.{mark_lines}
use Rattle.px_leak.specs.declared.told.Leak.{Leak}

-- FILE:L:C: leak in PROCEDURE, and a line for each mark
abbrev pub leak_text : ProgramTree → Leak → List ℕ
leak_text P l = place_text P.files l.site ++ (codes ": leak in " ++ (name_at P.names l.proc.0 ++ (line_feed ++ mark_lines P l.trace)))

abbrev pub leak_texts : ProgramTree → List Leak → List ℕ
leak_texts P [] = []
leak_texts P (l ∷ leaks) = leak_text P l ++ leak_texts P leaks

-- each leak, and leaks N
abbrev pub leaks_text : ProgramTree → List Leak → List ℕ
leaks_text P leaks = leak_texts P leaks ++ (codes "leaks " ++ (decimal (length leaks) ++ line_feed))

-- the text after a report, where it is asked for
abbrev pub leaks_asked : Bool → ProgramTree → List Leak → List ℕ
leaks_asked asked P leaks = if asked then leaks_text P leaks else []
