use Rattle.std.proofs.Common.{◌≡◌, map, take}
use Rattle.serde_json.specs.View.{view}
use Rattle.px_syntax.specs.ProgramTree.{program_tree}
use Rattle.px_report.specs.Json.{dropped_object}
use Rattle.px_report.proofs.json.dropped_values.Given as goal

abbrev pub invariant-loop-one : goal.invariant-loop-one
invariant-loop-one l = map view l.all.items ≡ map (dropped_object (program_tree l.program)) (take l.one-index l.dropped)
