use Rattle.std.proofs.Common.{◌≡◌, ◌++◌, drop, map}
use Rattle.px_text_report.specs.Known.{known_of}
use Rattle.px_text_report.specs.Faults.{all_faults}
use Rattle.px_text_report.proofs.faults.all_faults.Given as goal

abbrev pub invariant-loop-part : goal.invariant-loop-part
invariant-loop-part l = l.all.items ++ all_faults (map known_of (drop l.part-index l.parts)) ≡ all_faults (map known_of l.parts)
