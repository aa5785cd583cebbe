use Rattle.std.proofs.Common.{take}
use Rattle.px_leak.specs.Pointers.{GainsCells}
use Rattle.px_leak.proofs.pointers.add_atoms.Given as goal

abbrev pub invariant-loop-atom : goal.invariant-loop-atom
invariant-loop-atom l = GainsCells l.count l.initial.graph (take l.atom-index l.atoms) l.graph
