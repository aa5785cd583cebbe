use Rattle.std.proofs.Common.{◌≡◌, ◌-◌, ◌<◌, ◌≤◌, ◌++◌, length, take}
use Rattle.std.specs.Prelude.{reverse, slice_index}
use Rattle.px_interval.specs.Gaps.{gaps_on}
use Rattle.px_interval.proofs.kept.gather.Given as goal

abbrev pub invariant-loop-end : goal.invariant-loop-end
invariant-loop-end l = record {
  within : l.end ≤ length l.bounds;
  here : 0 < l.end → slice_index l.variables (l.end - 1) ≡ l.variable;
  gathered : l.gaps.items ++ gaps_on l.variable (reverse (take l.end l.bounds)) ≡ l.initial.gaps.items ++ gaps_on l.variable (reverse l.bounds);
}

abbrev pub decreases-loop-end : goal.decreases-loop-end
decreases-loop-end l = l.end
