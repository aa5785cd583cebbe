use Rattle.std.proofs.Common.{take}
use Rattle.px_calls.specs.Leaving.{IsLeft}
use Rattle.px_calls.proofs.leaving.leave_all.Given as goal

abbrev pub invariant-loop-atom : goal.invariant-loop-atom
invariant-loop-atom l = IsLeft l.vars l.substitution (take l.atom-index l.atoms) l.left
