use Rattle.std.proofs.Common.{◌≡◌, ◌++◌, drop}
use Rattle.px_leak.specs.Losses.{together}
use Rattle.px_leak.proofs.got.together.Given as goal

abbrev pub invariant-loop-i : goal.invariant-loop-i
invariant-loop-i l = l.blocks.items ++ together (drop l.i l.made) (drop l.i l.spots) ≡ together l.made l.spots
