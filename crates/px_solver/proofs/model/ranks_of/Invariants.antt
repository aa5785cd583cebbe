use Rattle.std.proofs.Common.{◌≡◌, ℕ, ◌<◌, ◌≤◌, length, get_or}
use Rattle.px_solver.specs.Finals.{own_below}
use Rattle.px_solver.proofs.model.ranks_of.Given as goal

abbrev pub invariant-loop-x : goal.invariant-loop-x
invariant-loop-x l = record {
  so_far : length l.ranks.items ≡ l.x;
  here : l.count ≡ own_below l.model l.x;
  low : l.count ≤ l.x;
  each : (x : ℕ) → x < l.x → get_or l.ranks.items x 0 ≡ own_below l.model x;
  small : (x : ℕ) → x < l.x → get_or l.ranks.items x 0 ≤ x;
}
