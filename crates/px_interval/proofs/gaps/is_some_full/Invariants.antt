use Rattle.std.proofs.Common.{◌<◌, ◌^◌}
use Rattle.px_interval.specs.Gaps.{IsSwept}
use Rattle.px_interval.proofs.gaps.is_some_full.Given as goal

abbrev pub invariant-loop-gap : goal.invariant-loop-gap
invariant-loop-gap l = record {
  few : l.next < 2 ^ 32;
  swept : IsSwept l.gaps l.gap-index l.variable l.next;
}
