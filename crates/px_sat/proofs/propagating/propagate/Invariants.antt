use Rattle.std.proofs.Common.{◌^◌, ◌-◌, take}
use Rattle.px_sat.specs.Steps.{IsClosedTo}
use Rattle.px_sat.specs.Searches.{Extends}
use Rattle.px_sat.proofs.propagating.propagate.Given as goal

abbrev pub invariant-loop-place : goal.invariant-loop-place
invariant-loop-place l = record {
  extends : Extends l.clauses l.initial.trail l.trail;
  closed : IsClosedTo l.clauses (take l.place l.trail) l.trail;
}

abbrev pub decreases-loop-place : goal.decreases-loop-place
decreases-loop-place l = 2 ^ 64 - l.place
