-- The lines on the faults of sources.
use Rattle.std.specs.Prelude.{List, ℕ, ◌++◌, codes}
use Rattle.std.specs.Fmt.{decimal}
use Rattle.px_base.specs.declared.trace.Site.{Site}
use Rattle.px_reading.specs.declared.reading.SourceFault.{SourceFault}
use Rattle.px_reading.specs.declared.reading.SourceFault.TheVariants.{Byte, Comment, Constant, Unbalanced}
use Rattle.px_lines.specs.Lines.{line_feed}

-- :L:C: and what is wrong there
abbrev pub fault_at : Site → List ℕ → List ℕ
fault_at site what = codes ":" ++ (decimal site.line ++ (codes ":" ++ (decimal site.column ++ (what ++ line_feed))))

abbrev pub fault_text : SourceFault → List ℕ
fault_text (Byte site) = fault_at site (codes ": unexpected byte")
fault_text (Comment site) = fault_at site (codes ": unclosed comment")
fault_text (Constant site) = fault_at site (codes ": constant too large")
fault_text (Unbalanced site) = fault_at site (codes ": unbalanced bracket")

abbrev pub fault_line : List ℕ → SourceFault → List ℕ
fault_line file fault = file ++ fault_text fault
