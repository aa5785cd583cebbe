use Rattle.std.proofs.Common.{◌≡◌, ◌++◌, drop, map}
use Rattle.px_syntax.specs.ProgramTree.{procedure_tree}
use Rattle.px_text_report.specs.Known.{known_of}
use Rattle.px_text_report.specs.LeftOut.{without_table}
use Rattle.px_text_report.proofs.left_out.without_table.Given as goal

abbrev pub invariant-loop-i : goal.invariant-loop-i
invariant-loop-i l =
    l.left.items ++ without_table (map procedure_tree (drop l.i l.procedures)) (map known_of (drop l.i l.parts)) ≡ without_table (map procedure_tree l.procedures) (map known_of l.parts)
