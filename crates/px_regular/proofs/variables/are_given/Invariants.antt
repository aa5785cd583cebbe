use Rattle.std.proofs.Common.{◌≡◌}
use Rattle.px_entry.specs.Regular.{are_given}
use Rattle.px_regular.proofs.variables.are_given.Given as goal

-- so many of what is left are given where so many of all are
abbrev pub invariant-loop-left : goal.invariant-loop-left
invariant-loop-left l = are_given l.left l.rest ≡ are_given l.fn.count l.fn.vars

abbrev pub decreases-loop-left : goal.decreases-loop-left
decreases-loop-left l = l.left
