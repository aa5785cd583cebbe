use Rattle.std.proofs.Common.{◌≡◌, ◌++◌, drop}
use Rattle.px_syntax.specs.ProgramTree.{program_tree}
use Rattle.px_text_report.specs.BugTexts.{mark_lines}
use Rattle.px_text_report.proofs.bug_lines.put_marks.Given as goal

abbrev pub invariant-loop-mark : goal.invariant-loop-mark
invariant-loop-mark l = l.out.items ++ mark_lines (program_tree l.program) (drop l.mark-index l.trace) ≡ l.initial.out.items ++ mark_lines (program_tree l.program) l.trace
