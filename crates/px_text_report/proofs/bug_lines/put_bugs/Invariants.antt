use Rattle.std.proofs.Common.{◌≡◌, ◌++◌, drop}
use Rattle.px_syntax.specs.ProgramTree.{program_tree}
use Rattle.px_text_report.specs.BugTexts.{bug_texts}
use Rattle.px_text_report.proofs.bug_lines.put_bugs.Given as goal

abbrev pub invariant-loop-bug : goal.invariant-loop-bug
invariant-loop-bug l = l.out.items ++ bug_texts (program_tree l.program) (drop l.bug-index l.bugs) ≡ l.initial.out.items ++ bug_texts (program_tree l.program) l.bugs
