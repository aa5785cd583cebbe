use Rattle.std.proofs.Common.{◌≡◌, ◌++◌, drop}
use Rattle.px_syntax.specs.ProgramTree.{program_tree}
use Rattle.px_text_report.specs.LeftOut.{left_lines}
use Rattle.px_text_report.proofs.left_lines.put_left.Given as goal

abbrev pub invariant-loop-item : goal.invariant-loop-item
invariant-loop-item l = l.out.items ++ left_lines (program_tree l.program) (drop l.item-index l.left) ≡ l.initial.out.items ++ left_lines (program_tree l.program) l.left
