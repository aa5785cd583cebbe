use Rattle.std.proofs.Common.{◌≡◌, map, take}
use Rattle.serde_json.specs.View.{view}
use Rattle.px_syntax.specs.ProgramTree.{program_tree}
use Rattle.px_report.specs.Json.{mark_object}
use Rattle.px_report.proofs.json.mark_values.Given as goal

abbrev pub invariant-loop-mark : goal.invariant-loop-mark
invariant-loop-mark l = map view l.all.items ≡ map (mark_object (program_tree l.program)) (take l.mark-index l.trace)
