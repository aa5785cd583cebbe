use Rattle.std.proofs.Common.{◌≡◌, ◌<◌, ◌≤◌, ◌-◌, ◌++◌, length, drop, get_or}
use Rattle.px_solver.specs.Tables.{places_from}
use Rattle.px_solver.proofs.chains.places_of.Given as goal

abbrev pub invariant-loop-at : goal.invariant-loop-at
invariant-loop-at l = record {
  within : l.at ≤ length l.homes;
  here : l.at < length l.homes → get_or l.homes l.at 0 ≡ l.home;
  so_far : l.places.items ++ places_from l.home l.at (drop l.at l.homes) ≡ places_from l.home 0 l.homes;
}

abbrev pub decreases-loop-at : goal.decreases-loop-at
decreases-loop-at l = length l.homes - l.at
