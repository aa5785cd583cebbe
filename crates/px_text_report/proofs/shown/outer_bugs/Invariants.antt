use Rattle.std.proofs.Common.{◌≡◌, ◌++◌, drop, map}
use Rattle.std.specs.Prelude.{flat_map}
use Rattle.px_text_report.specs.Known.{known_of}
use Rattle.px_text_report.specs.Faults.{outer_bugs_of}
use Rattle.px_text_report.proofs.shown.outer_bugs.Given as goal

abbrev pub invariant-loop-part : goal.invariant-loop-part
invariant-loop-part l =
    l.bugs.items ++ flat_map (outer_bugs_of l.faults) (map known_of (drop l.part-index l.parts)) ≡ flat_map (outer_bugs_of l.faults) (map known_of l.parts)
