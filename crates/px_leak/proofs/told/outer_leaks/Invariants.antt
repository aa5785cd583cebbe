use Rattle.std.proofs.Common.{◌≡◌, ◌++◌, drop, map}
use Rattle.std.specs.Prelude.{flat_map}
use Rattle.px_text_report.specs.Known.{known_of}
use Rattle.px_leak.specs.Leaks.{leaks_of}
use Rattle.px_leak.proofs.told.outer_leaks.Given as goal

abbrev pub invariant-loop-part : goal.invariant-loop-part
invariant-loop-part l = l.leaks.items ++ flat_map (leaks_of l.sites) (map known_of (drop l.part-index l.parts)) ≡ flat_map (leaks_of l.sites) (map known_of l.parts)
