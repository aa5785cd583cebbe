use Rattle.std.proofs.Common.{◌≡◌, map, take}
use Rattle.serde_json.specs.View.{view}
use Rattle.px_syntax.specs.ProgramTree.{program_tree}
use Rattle.px_report.specs.Json.{bug_object}
use Rattle.px_report.proofs.json.bug_values.Given as goal

abbrev pub invariant-loop-bug : goal.invariant-loop-bug
invariant-loop-bug l = map view l.all.items ≡ map (bug_object (program_tree l.program)) (take l.bug-index l.bugs)
