use Rattle.std.proofs.Common.{◌-◌, ◌≤◌, length}
use Rattle.std.specs.Io.KnownBytes.{Consumes}
use Rattle.px_io.proofs.host_files.read_up_to.Given as goal

abbrev pub invariant-loop-count : goal.invariant-loop-count
invariant-loop-count g l =
    Consumes (g.S.Read.remaining l.initial.source) (g.S.Read.remaining l.source) l.contents.items
    × (length l.contents.items ≤ l.limit)

abbrev pub decreases-loop-count : goal.decreases-loop-count
decreases-loop-count g l = l.limit - length l.contents.items
