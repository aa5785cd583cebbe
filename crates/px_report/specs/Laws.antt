-- What the forms of a report say.
use Rattle.std.specs.Prelude.{◌≡◌, All}
use Rattle.std.specs.Str.{IsUtf8}
use Rattle.px_syntax.specs.declared.program.Left.{Left}
use Rattle.px_syntax.specs.ProgramTree.{ProgramTree}
use Rattle.px_text_report.specs.declared.drops.Dropped.{Dropped}
use Rattle.px_text_report.specs.declared.reports.Report.{Report}
use Rattle.px_text_report.specs.Reports.{report_text}
use Rattle.px_report.specs.Json.{report_object}

-- the causes and words that a report shows are UTF-8
pub record IsReadable (r : Report) : Type 0 where
  pub causes : All (λ (d : Dropped). IsUtf8 d.cause) r.dropped
  pub words : All (λ (l : Left). IsUtf8 l.word) r.left_out

-- The JSON of a report says all that its text says: of a program whose names are UTF-8, reports that are one object are one text.
abbrev pub FormsAgree : Type 0
FormsAgree =
    (P : ProgramTree) (r q : Report) → All IsUtf8 P.names → All IsUtf8 P.files → IsReadable r → IsReadable q →
    report_object P r ≡ report_object P q → report_text P r ≡ report_text P q
