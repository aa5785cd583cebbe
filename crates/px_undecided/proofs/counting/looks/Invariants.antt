use Rattle.std.proofs.Common.{take}
use Rattle.px_undecided.specs.Counting.{undecided_in, AreLooks}
use Rattle.px_undecided.proofs.counting.looks.Given as goal

abbrev pub invariant-loop-gap : goal.invariant-loop-gap
invariant-loop-gap l = AreLooks l.conflicts (undecided_in (take l.gap-index l.drops)) l.looks.items
