-- What a report says, and its text.
use Rattle.std.specs.Prelude.{ℕ, ◌+◌, List, [], ◌∷◌, ◌++◌, length, codes}
use Rattle.std.specs.Fmt.{decimal}
use Rattle.px_syntax.specs.ProgramTree.{ProgramTree}
use Rattle.px_text_report.specs.declared.drops.Dropped.{Dropped}
use Rattle.px_text_report.specs.declared.reports.Report.{Report}
use Rattle.px_text_report.specs.Places.{line_feed, name_at}
use Rattle.px_text_report.specs.Known.{Known, tabled, left_out}
use Rattle.px_text_report.specs.Bugs.{all_bugs}
use Rattle.px_text_report.specs.BugTexts.{bug_texts}
use Rattle.px_text_report.specs.LeftOut.{without_table, by_place, left_lines}
use Rattle.px_text_report.specs.Drops.{all_dropped}

-- a form of reports: the bytes of each report on each program
abbrev pub Form : Type 0
Form = ProgramTree → Report → List ℕ

abbrev pub one_if_tabled : Known → ℕ
one_if_tabled (tabled entries drops) = 1
one_if_tabled left_out = 0

-- how many have a table
abbrev pub table_count : List Known → ℕ
table_count [] = 0
table_count (x ∷ parts) = one_if_tabled x + table_count parts

-- the report on a program of whose kept procedures this is known
abbrev pub report_on : ProgramTree → List Known → Report
report_on P parts = record {
  bugs = all_bugs parts;
  left_out = by_place P.left (without_table P.procedures parts);
  dropped = all_dropped P.names P.words P.procedures parts;
  procedures = table_count parts;
}

-- ---- the text

-- dropped PROCEDURE: CAUSE, N
abbrev pub dropped_line : List (List ℕ) → Dropped → List ℕ
dropped_line names d = codes "dropped " ++ (name_at names d.proc.0 ++ (codes ": " ++ (d.cause ++ (codes ", " ++ (decimal d.count ++ line_feed)))))

abbrev pub dropped_lines : List (List ℕ) → List Dropped → List ℕ
dropped_lines names [] = []
dropped_lines names (d ∷ rest) = dropped_line names d ++ dropped_lines names rest

-- procedures P, left out L, bugs B
abbrev pub last_line : ℕ → ℕ → ℕ → List ℕ
last_line procedures left bugs =
    codes "procedures " ++ (decimal procedures ++ (codes ", left out " ++ (decimal left ++ (codes ", bugs " ++ (decimal bugs ++ line_feed)))))

abbrev pub report_text : ProgramTree → Report → List ℕ
report_text P r =
    bug_texts P r.bugs ++ (left_lines P r.left_out ++ (dropped_lines P.names r.dropped
    ++ last_line r.procedures (length r.left_out) (length r.bugs)))
