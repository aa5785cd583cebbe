use Rattle.std.proofs.Common.{take}
use Rattle.px_sat.specs.Searches.{IsLeft}
use Rattle.px_sat.proofs.propagating.left_of.Given as goal

abbrev pub invariant-loop-literal : goal.invariant-loop-literal
invariant-loop-literal l = IsLeft l.trail (take l.literal-index l.clause) l.left
