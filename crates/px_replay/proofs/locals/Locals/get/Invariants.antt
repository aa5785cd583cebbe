use Rattle.std.proofs.Common.{◌≡◌, drop}
use Rattle.px_replay.specs.Locals.{locals_map}
use Rattle.px_replay.proofs.LaterWrites.{value_over}
use Rattle.px_replay.proofs.locals.Locals.get.Given as goal

abbrev pub invariant-loop-written : goal.invariant-loop-written
invariant-loop-written l = value_over l.local l.value (drop l.written-index l.self.written.items) ≡ locals_map l.self l.local
