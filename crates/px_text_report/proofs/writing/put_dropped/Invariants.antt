use Rattle.std.proofs.Common.{◌≡◌, ◌++◌, drop}
use Rattle.px_text_report.specs.Reports.{dropped_lines}
use Rattle.px_text_report.proofs.writing.put_dropped.Given as goal

abbrev pub invariant-loop-one : goal.invariant-loop-one
invariant-loop-one l = l.out.items ++ dropped_lines l.names (drop l.one-index l.dropped) ≡ l.initial.out.items ++ dropped_lines l.names l.dropped
