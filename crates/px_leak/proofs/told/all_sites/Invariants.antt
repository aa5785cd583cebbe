use Rattle.std.proofs.Common.{◌≡◌, ◌++◌, drop, map}
use Rattle.px_text_report.specs.Known.{known_of}
use Rattle.px_leak.specs.Leaks.{leak_sites}
use Rattle.px_leak.proofs.told.all_sites.Given as goal

abbrev pub invariant-loop-part : goal.invariant-loop-part
invariant-loop-part l = l.all.items ++ map leak_sites (map known_of (drop l.part-index l.parts)) ≡ map leak_sites (map known_of l.parts)
