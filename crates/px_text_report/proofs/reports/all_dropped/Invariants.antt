use Rattle.std.proofs.Common.{◌≡◌, ◌++◌, drop, map}
use Rattle.px_syntax.specs.ProgramTree.{procedure_tree}
use Rattle.px_text_report.specs.Known.{known_of}
use Rattle.px_text_report.specs.Drops.{all_dropped}
use Rattle.px_text_report.proofs.reports.all_dropped.Given as goal

abbrev pub invariant-loop-i : goal.invariant-loop-i
invariant-loop-i l =
    l.dropped.items ++ all_dropped l.names l.words (map procedure_tree (drop l.i l.procedures)) (map known_of (drop l.i l.parts)) ≡ all_dropped l.names l.words (map procedure_tree l.procedures) (map known_of l.parts)
