use Rattle.std.proofs.Common.{◌≡◌, ℕ, List, length, ◌-◌, ◌≤◌, take}
use Rattle.std.specs.Io.KnownBytes.{Appends}
use Rattle.px_io.specs.Pieces.{WritesPieces}
use Rattle.px_io.proofs.sink.write_all.Given as goal

abbrev pub invariant-loop-from : goal.invariant-loop-from
invariant-loop-from g l =
    let sink = g.K.Sink in
    Appends (sink.told l.initial.sink) (sink.told l.sink) (take l.from l.bytes)
    × (sink.count l.sink ≡ sink.count l.initial.sink)
    × (l.from ≤ length l.bytes)
    × ((pieces : List (List ℕ)) × WritesPieces sink.takes l.initial.sink pieces l.sink)

abbrev pub decreases-loop-from : goal.decreases-loop-from
decreases-loop-from g l = length l.bytes - l.from
