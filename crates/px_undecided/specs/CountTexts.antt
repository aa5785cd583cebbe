-- Counts as they are printed.
use Rattle.std.specs.Prelude.{◌≡◌, ℕ, List, [], ◌∷◌, ◌++◌, Option, Some, None, codes}
use Rattle.std.specs.Fmt.{decimal}
use Rattle.px_syntax.specs.ProgramTree.{ProgramTree}
use Rattle.px_text_report.specs.Places.{line_feed, name_at}
use Rattle.px_text_report.specs.Known.{Known}
use Rattle.px_undecided.specs.declared.counting.LookCounts.{LookCounts}
use Rattle.px_undecided.specs.Counting.{AreCounts}

-- : refuted A, met B, open C
abbrev pub numbers_text : LookCounts → List ℕ
numbers_text c = codes ": refuted " ++ (decimal c.refuted ++ (codes ", met " ++ (decimal c.met ++ (codes ", open " ++ (decimal c.left_open ++ line_feed)))))

-- bits PROCEDURE, and the numbers
abbrev pub count_line : ProgramTree → LookCounts → List ℕ
count_line P c = codes "bits " ++ (name_at P.names c.proc.0 ++ numbers_text c)

abbrev pub count_lines : ProgramTree → List LookCounts → List ℕ
count_lines P [] = []
count_lines P (c ∷ counts) = count_line P c ++ count_lines P counts

-- the text after a report: where it is asked for with so many clauses a search, the lines of some counts
abbrev pub IsBitsText : Option ℕ → ProgramTree → List Known → List ℕ → Type 0
IsBitsText None P parts text = text ≡ []
IsBitsText (Some conflicts) P parts text = (counts : List LookCounts) × AreCounts conflicts P.procedures parts counts × (text ≡ count_lines P counts)
