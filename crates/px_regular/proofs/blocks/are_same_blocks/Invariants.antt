use Rattle.std.proofs.Common.{◌≡◌, drop}
use Rattle.px_entry.specs.Constraint.{found_atoms}
use Rattle.px_entry.specs.Regular.{same_blocks}
use Rattle.px_regular.proofs.blocks.are_same_blocks.Given as goal

-- those that are left are the same where all are
abbrev pub invariant-loop-atom : goal.invariant-loop-atom
invariant-loop-atom l = same_blocks (drop l.met l.found) (found_atoms l.vars (drop l.atom-index l.left)) ≡ same_blocks l.found (found_atoms l.vars l.left)
