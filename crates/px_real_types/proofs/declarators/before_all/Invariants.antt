use Rattle.std.proofs.Common.{◌≡◌, ◌≤◌, drop, length}
use Rattle.px_real_types.specs.Declarators.{before_all}
use Rattle.px_real_types.proofs.declarators.before_all.Given as goal

abbrev pub invariant-loop-at : goal.invariant-loop-at
invariant-loop-at l = record {
  within : l.at ≤ length l.suffixes;
  so_far : before_all (drop l.at l.suffixes) l.fn.shape ≡ l.before;
}

abbrev pub decreases-loop-at : goal.decreases-loop-at
decreases-loop-at l = l.at
