use Rattle.std.proofs.Common.{◌≡◌, map, take}
use Rattle.serde_json.specs.View.{view}
use Rattle.px_syntax.specs.ProgramTree.{program_tree}
use Rattle.px_report.specs.Json.{left_object}
use Rattle.px_report.proofs.json.left_values.Given as goal

abbrev pub invariant-loop-item : goal.invariant-loop-item
invariant-loop-item l = map view l.all.items ≡ map (left_object (program_tree l.program)) (take l.item-index l.left)
