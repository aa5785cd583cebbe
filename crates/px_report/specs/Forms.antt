-- The forms of a report: text, and JSON.
use Rattle.std.specs.Prelude.{ℕ, Bool, List, if◌then◌else◌}
use Rattle.px_syntax.specs.ProgramTree.{ProgramTree}
use Rattle.px_text_report.specs.declared.reports.Report.{Report}
use Rattle.px_text_report.specs.Known.{Known}
use Rattle.px_text_report.specs.Reports.{report_on, report_text}
use Rattle.px_report.specs.Json.{report_json}

-- a report on a program, in JSON or as text
abbrev pub form : Bool → ProgramTree → Report → List ℕ
form json P r = if json then report_json P r else report_text P r

-- the report on a program of whose kept procedures this is known
abbrev pub rendered : Bool → ProgramTree → List Known → List ℕ
rendered json P parts = form json P (report_on P parts)
