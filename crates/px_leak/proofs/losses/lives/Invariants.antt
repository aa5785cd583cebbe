use Rattle.std.proofs.Common.{take}
use Rattle.px_leak.specs.Lives.{AreLives}
use Rattle.px_leak.proofs.losses.lives.Given as goal

abbrev pub invariant-loop-atom : goal.invariant-loop-atom
invariant-loop-atom l = AreLives l.count (take l.atom-index l.atoms) l.lives.items
